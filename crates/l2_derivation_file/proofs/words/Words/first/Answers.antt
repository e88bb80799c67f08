use Rattle.std.proofs.Common.{rules, ◌≡◌, [], ap, ◌∙◌, cond, true}
use Rattle.l2_cert.specs.Words.{words_of}
use Rattle.l2_cert.proofs.Spaces.{words_of-one, words_of-spaced}
use Rattle.l2_derivation_file.proofs.words.Words.first.Goals as goal

pub returns-in-Some : goal.returns-in-Some
returns-in-Some c =
    let more : c.args.self.more ≡ true = search rules in
    let cut = c.in-Some.ensures in
    ap (λ m. cond m (words_of c.args.self.rest.now) []) more ∙ ap words_of cut.1 ∙ words_of-spaced c.in-Some.cut.word.now c.in-Some.cut.rest.now cut.0

pub returns-in-None : goal.returns-in-None
returns-in-None c =
    let more : c.args.self.more ≡ true = search rules in
    ap (λ m. cond m (words_of c.args.self.rest.now) []) more ∙ words_of-one c.args.self.rest.now c.in-None.ensures
