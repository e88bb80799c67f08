use Rattle.std.proofs.Common.{◌∙◌, [], sym, refl, map, ℕ, List, Bor}
use Rattle.l2_directives.specs.declared.role.Role.{Role}
use Rattle.l2_directives.specs.declared.role.Role.TheVariants as role
use Rattle.l2_directives.specs.Headers.{entry}
use Rattle.l2_lex.specs.Lexing.{is_defined, defines_one}
use Rattle.l2_lex.specs.Code.{state_of}
use Rattle.l2_lex.proofs.Keys.{found_at, passed_at}
use Rattle.l2_lex.proofs.lexing.defines_one.Goals as goal

abbrev none : Bor (List ℕ) × Role
none = (record { ref_ptr = (0, 0); now = [] }, role.Plain)

pub returns-then-is_defined : goal.returns-then-is_defined
returns-then-is_defined c =
    let s = state_of c.args.lexer.now in
    sym (sym c.loop-entry.invariant ∙ found_at (λ (l : List (Bor (List ℕ) × Role)). defines_one (map (λ e. entry e.0.now e.1) l) s) (λ e. is_defined e.0.now s) (λ x xs. refl) c.args.entries.now c.loop-entry.entry-index none c.is_defined.result
    c.loop-entry-test.true c.is_defined.ensures c.if-is_defined.true)

pub loop-entry-preserved : goal.loop-entry-preserved
loop-entry-preserved c =
    let s = state_of c.args.lexer.now in
    sym (passed_at (λ (l : List (Bor (List ℕ) × Role)). defines_one (map (λ e. entry e.0.now e.1) l) s) (λ e. is_defined e.0.now s) (λ x xs. refl) c.args.entries.now c.loop-entry.entry-index none c.is_defined.result
    c.loop-entry-test.true c.is_defined.ensures c.if-is_defined.false) ∙ c.loop-entry.invariant
