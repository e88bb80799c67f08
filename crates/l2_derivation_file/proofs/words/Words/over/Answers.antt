use Rattle.std.proofs.Common.{refl, ◌≡◌, [], IsTrue, Bool, true, false, not, cond}
use Rattle.l2_cert.specs.Words.{Word, words_of}
use Rattle.l2_cert.proofs.Spaces.{some_word}
use Rattle.l2_derivation_file.proofs.words.Words.over.Goals as goal

decided : (more : Bool) (text : Word) → (IsTrue (not more) → cond more (words_of text) [] ≡ []) × (cond more (words_of text) [] ≡ [] → IsTrue (not more))
decided true text = (λ same. cc, λ none. absurd (some_word text none))
decided false text = (λ same. refl, λ none. refl)

-- src/words.rt:68:5
pub returns : goal.returns
returns c = decided c.args.self.more c.args.self.rest.now
