use Rattle.std.proofs.Common.{◌∙◌, sym, ℕ, List, Bor}
use Rattle.std.specs.Str.{bytes_eq}
use Rattle.l2_lex.proofs.Keys.{position_map, absent, present}
use Rattle.l2_lex.proofs.known.number_of.Goals as goal

pub returns-in-None : goal.returns-in-None
returns-in-None c =
    c.len.ensures.len ∙ sym (absent (λ (k : Bor (List ℕ)). bytes_eq c.args.word.now k.now) c.args.known.now.names.keys (sym c.in-None.is ∙ c.get_index_of.ensures.index))
    ∙ position_map (λ k. k.now) (bytes_eq c.args.word.now) c.args.known.now.names.keys

pub returns-in-Some : goal.returns-in-Some
returns-in-Some c =
    present (λ (k : Bor (List ℕ)). bytes_eq c.args.word.now k.now) c.args.known.now.names.keys c.in-Some.index (sym c.in-Some.is ∙ c.get_index_of.ensures.index)
    ∙ position_map (λ k. k.now) (bytes_eq c.args.word.now) c.args.known.now.names.keys
