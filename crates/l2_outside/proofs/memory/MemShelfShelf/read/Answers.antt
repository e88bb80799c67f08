use Rattle.std.proofs.Common.{◌≡◌, ◌⊎◌, ℕ, false, IsTrue, Some, None, ap, sym, ◌∙◌, inl, inr, refl, take}
use Rattle.std.proofs.Common.{arith, rules}
use Rattle.std.proofs.lemmas.Grind.{common_steps}
use Rattle.std.proofs.lemmas.List.{take_min}
use Rattle.std.specs.Prelude.{option_map}
use Rattle.std.specs.FinMap.{get}
use Rattle.l2_outside.specs.Memory.{fails_next, told}
use Rattle.l2_outside.proofs.Told.{get-told}
use Rattle.l2_outside.proofs.memory.MemShelfShelf.read.Goals as goal
use Rattle.l2_outside.proofs.memory.MemShelfShelf.read.Goals.{In_default, In-Some}

-- the name is missing
lacks : (c : In_default) → get (told c.args.self.now.files) c.args.name.now ≡ None
lacks c = ap (λ f. get f c.args.name.now) (sym c.call_fails.ensures.files)
    ∙ get-told c.call_fails.new.self.files c.args.name.now
    ∙ ap (option_map (λ v. v.items)) (sym c.in_default.ensures.value)

-- the name is there
has : (c : In-Some) → get (told c.args.self.now.files) c.args.name.now ≡ Some c.in-Some.bytes.now.items
has c = ap (λ f. get f c.args.name.now) (sym c.call_fails.ensures.files)
    ∙ get-told c.call_fails.new.self.files c.args.name.now
    ∙ ap (option_map (λ v. v.items)) (sym c.in-Some.ensures.value)

-- neither cause is there
neither : (c : In-Some) → IsTrue (fails_next c.args.self.now.failing.items c.args.self.now.calls) ⊎ (get (told c.args.self.now.files) c.args.name.now ≡ None) → ⊥
neither c (inl fails) =
    let passed : c.call_fails.result ≡ false = c.if-call_fails.false in
    let value : c.call_fails.result ≡ fails_next c.args.self.now.failing.items c.args.self.now.calls = c.call_fails.ensures.value in
    cc
neither c (inr lacking) = let there = has c in cc

pub returns-in_default-clause-failed : goal.returns-in_default-clause-failed
returns-in_default-clause-failed c = λ _. inr (lacks c)

pub returns-in_default-clause-exactly : goal.returns-in_default-clause-exactly
returns-in_default-clause-exactly c = (λ _. inr (lacks c), λ _. refl)

pub returns-in-Ok-clause-bytes : goal.returns-in-Ok-clause-bytes
returns-in-Ok-clause-bytes c =
    let there = has (goal.at.returns-in-Ok-clause-bytes c).In-Some in
    let goes : c.in-Ok.copy.items ≡ take c.args.most c.in-Some.bytes.now.items = grind (arith, common_steps, take_min {X = ℕ}) in
    rw there goes

pub returns-in-Ok-clause-exactly : goal.returns-in-Ok-clause-exactly
returns-in-Ok-clause-exactly c = (λ failed. search rules, λ cause. absurd (neither (goal.at.returns-in-Ok-clause-exactly c).In-Some cause))

pub returns-in-Err-clause-exactly : goal.returns-in-Err-clause-exactly
returns-in-Err-clause-exactly c = (λ failed. cc, λ cause. absurd (neither (goal.at.returns-in-Err-clause-exactly c).In-Some cause))
