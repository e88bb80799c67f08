use Rattle.std.proofs.Common.{rules, ◌≡◌, ◌++◌, ◌∙◌, ◌+◌, ◌-◌, ◌<◌, ◌≤◌, ℕ, suc, [], codes, string_bytes, sym, ap, append_assoc, append-nil, arith}
use Rattle.l2_gen.specs.Made.{constant, counting, line, loops_from, next}
use Rattle.l2_gen.proofs.program_of.Goals as goal

-- the first of the loops that are left
first_left : (s i loops : ℕ) → i < loops → loops_from (i + 1) s (loops - i) ≡ counting (i + 1) (constant (next s)) ++ loops_from (i + 1 + 1) (next s) (loops - (i + 1))
first_left s i loops within = let count : loops - i ≡ suc (loops - (i + 1)) = omega (arith, within) in ap (loops_from (i + 1) s) count

none_left : (s i loops : ℕ) → loops ≤ i → loops_from (i + 1) s (loops - i) ≡ []
none_left s i loops over = let count : loops - i ≡ 0 = omega (arith, over) in ap (loops_from (i + 1) s) count

pub loop-i-preserved : goal.loop-i-preserved
loop-i-preserved c =
    let s = c.loop-i.state in
    let i = c.loop-i.i in
    let loops = c.args.loops in
    let text = string_bytes c.loop-i.text in
    let within : i < loops = search rules in
    let made = counting (i + 1) (constant (next s)) in
    let pushed : string_bytes c.push_loop.new.text ≡ text ++ made = c.in_ok-push_loop.ensures ∙ ap (λ m. text ++ counting (i + 1) m) (c.constant.ensures ∙ ap constant c.next-state.ensures) in
    let state : c.next-state.result ≡ next s = c.next-state.ensures in
    ap (λ t. string_bytes c.push_loop.new.text ++ loops_from (i + 1 + 1) t (loops - (i + 1))) state
    ∙ ap (λ t. t ++ loops_from (i + 1 + 1) (next s) (loops - (i + 1))) pushed
    ∙ append_assoc text made (loops_from (i + 1 + 1) (next s) (loops - (i + 1)))
    ∙ ap (λ t. text ++ t) (sym (first_left s i loops within)) ∙ c.loop-i.invariant

pub returns : goal.returns
returns c =
    let text = string_bytes c.loop-i.text in
    let over : c.args.loops ≤ c.loop-i.i = search rules in
    let last = codes "return 0;\n}\n" in
    let made : text ≡ line (codes "int main(void){") ++ loops_from 1 c.args.seed c.args.loops =
    sym (append-nil text) ∙ ap (λ t. text ++ t) (sym (none_left c.loop-i.state c.loop-i.i c.args.loops over)) ∙ c.loop-i.invariant in
    let pushed : string_bytes c.push_str.new.self ≡ text ++ last = c.in_ok-push_str.ensures.bytes in
    pushed ∙ ap (λ t. t ++ last) made ∙ append_assoc (line (codes "int main(void){")) (loops_from 1 c.args.seed c.args.loops) last
