use Rattle.std.proofs.Common.{◌≡◌, ℕ, List, ◌<◌, ◌≤◌, ◌+◌, ◌-◌, ◌^◌, [], ◌∷◌, ◌++◌, length, drop, decimal, arith, refl, sym, ap, ◌∙◌, lit<, append-nil, append_assoc, length-set}
use Rattle.std.proofs.Math.ListN.{set, drop_of_length-le}
use Rattle.std.proofs.lemmas.List.{drop-set}
use Rattle.std.proofs.lemmas.Fmt.{length-decimal-le}
use Rattle.l2_syntax.proofs.place.spell.Goals as goal

short : (n : ℕ) → n < 2 ^ 32 → length (decimal n) ≤ 10
short n h = length-decimal-le 10 n (lit< tt) (omega arith) (omega arith)

-- a colon before what stands from s on
colon_before : (s : ℕ) (text : List ℕ) → 1 ≤ s → s ≤ length text → drop (s - 1) (set text (s - 1) 58) ≡ 58 ∷ drop s text
colon_before s text low high =
    let e : s - 1 + 1 ≡ s = omega arith in
    drop-set text (s - 1) 58 (omega arith) ∙ ap (λ n. 58 ∷ drop n text) e

pub write_digits-colon-requires : goal.write_digits-colon-requires
write_digits-colon-requires c =
    let e = c.from.ensures in
    let s = short c.args.col c.ranges.col.fits in
    (rw e (omega arith), omega arith)

pub overflow_sub-colon : goal.overflow_sub-colon
overflow_sub-colon c =
    let start = rw c.from.ensures at c.write_digits-colon.ensures.start in
    let s = short c.args.col c.ranges.col.fits in
    omega arith

pub write_digits-requires : goal.write_digits-requires
write_digits-requires c =
    let start = rw c.from.ensures at c.write_digits-colon.ensures.start in
    let s = short c.args.col c.ranges.col.fits in
    let t = short c.args.line c.ranges.line.fits in
    let n = length-set c.write_digits-colon.new.buf (c.write_digits-colon.result - 1) 58 in
    (rw c.from-2.ensures (omega arith), rw n (omega arith))

pub returns-clause-text : goal.returns-clause-text
returns-clause-text c =
    let start = rw c.from.ensures at c.write_digits-colon.ensures.start in
    let s = short c.args.col c.ranges.col.fits in
    let told = c.told-text in
    let kept = c.write_digits-colon.auto.buf in
    let past = drop_of_length-le c.args.text.now {i = 21} (omega arith) in
    let behind = c.write_digits-colon.ensures.written ∙ ap (λ n. decimal n ++ drop 21 c.args.text.now) c.from.ensures
    ∙ ap (λ l. decimal c.args.col ++ l) past ∙ append-nil (decimal c.args.col) in
    c.write_digits.ensures.written
    ∙ ap (λ n. decimal n ++ drop (c.write_digits-colon.result - 1) (set c.write_digits-colon.new.buf (c.write_digits-colon.result - 1) 58)) c.from-2.ensures
    ∙ ap (λ l. decimal c.args.line ++ l) (colon_before c.write_digits-colon.result c.write_digits-colon.new.buf (omega arith) (omega arith) ∙ ap (λ l. 58 ∷ l) behind)
    ∙ sym (append_assoc (decimal c.args.line) (58 ∷ []) (decimal c.args.col))
