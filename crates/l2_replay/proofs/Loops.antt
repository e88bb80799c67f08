-- Where a `while` stands after some of its turns.
use Rattle.std.proofs.Common.{◌≡◌, ℕ, suc, true, false, Bool, [], ◌+◌, ◌-◌, ◌<◌, ◌≤◌, Option, Some, None, sym, ap, ◌∙◌, arith}
use Rattle.l2_runs.specs.declared.outcome.Outcome.TheVariants.{OutOfTurns}
use Rattle.l2_runs.specs.Runs.{State, End, Over, Result, Run, Go, Halt, on_go, and_then, done}
use Rattle.l2_runs.specs.Loops.{Turn, or_events, tested, or_next, rounds, behind, spend, no_tests}
use Rattle.l2_meaning.specs.Meaning as meaning
use Rattle.l2_replay.specs.Reach.{turn_end}

-- a turn that hands nothing on
abbrev pub plain : Run (Option meaning.Ending) → Turn (Unit {0}) meaning.Ending
plain turn u = and_then turn (λ o. done (tt, o))

module _ (l : ℕ) where
  abbrev pub turn_of : Run (Option meaning.Ending) → Turn (Unit {0}) meaning.Ending
  turn_of turn = tested no_tests l (λ b. plain turn) true

  abbrev pub turns : ℕ → Run (Option meaning.Ending) → Unit {0} → Run (Unit {0} × meaning.Ending)
  turns n turn = rounds (Over OutOfTurns) n (behind spend (turn_of turn))

  -- the loop, by how it is left
  abbrev pub left : ℕ → Run (Option meaning.Ending) → Run meaning.Ending
  left n turn = and_then (turns n turn tt) (λ r. done r.1)

  module _ (turn : Run (Option meaning.Ending)) (n k : ℕ) (a b : State) (start : n ≡ b.turns) (here : left (n - k) turn a ≡ left n turn b) where
    one_more : k < n → left b.turns turn b ≡ on_go (on_go (on_go (spend a) (λ u. turn_of turn tt)) (or_next (turns (n - suc k) turn))) (λ r. done r.1)
    one_more h =
        let e : n - k ≡ suc (n - suc k) = omega arith in
        ap (λ j. left j turn b) (sym start) ∙ sym here ∙ ap (λ j. left j turn a) e

    pub no_arrival : k < n → (o : End) (s : State) → spend a ≡ Halt o s → left b.turns turn b ≡ Halt o s
    no_arrival h o s e =
        one_more h ∙ ap (λ x. on_go (on_go (on_go x (λ u. turn_of turn tt)) (or_next (turns (n - suc k) turn))) (λ r. done r.1)) e

    module _ (h : k < n) (u : Unit {0}) (c : State) (arrival : spend a ≡ Go u c) where
      in_turn : left b.turns turn b ≡ on_go (on_go (on_go (on_go (turn c) (λ o. done (tt, o))) (or_events true l [] c.store)) (or_next (turns (n - suc k) turn))) (λ r. done r.1)
      in_turn = one_more h ∙ ap (λ x. on_go (on_go (on_go x (λ u. turn_of turn tt)) (or_next (turns (n - suc k) turn))) (λ r. done r.1)) arrival

      after : (x : Result (Option meaning.Ending)) → turn c ≡ x → left b.turns turn b ≡ on_go (on_go (on_go (on_go x (λ o. done (tt, o))) (or_events true l [] c.store)) (or_next (turns (n - suc k) turn))) (λ r. done r.1)
      after x e = in_turn ∙ ap (λ x. on_go (on_go (on_go (on_go x (λ o. done (tt, o))) (or_events true l [] c.store)) (or_next (turns (n - suc k) turn))) (λ r. done r.1)) e

      pub turn_halts : (o : End) (s : State) → turn c ≡ Halt o s → left b.turns turn b ≡ Halt o s
      turn_halts o s e = after (Halt o s) e

      pub turn_leaves : (goes_on : Bool) (s : State) → turn c ≡ Go (turn_end goes_on) s → goes_on ≡ false → left b.turns turn b ≡ Go meaning.Next s
      turn_leaves goes_on s e is = after (Go (Some meaning.Next) s) (e ∙ ap (λ p. Go (turn_end p) s) is)

      pub turn_goes_on : (goes_on : Bool) (s : State) → turn c ≡ Go (turn_end goes_on) s → goes_on ≡ true → left (n - (k + 1)) turn s ≡ left n turn b
      turn_goes_on goes_on s e is =
          let f : n - (k + 1) ≡ n - suc k = omega arith in
          ap (λ j. left j turn s) f ∙ sym (after (Go None s) (e ∙ ap (λ p. Go (turn_end p) s) is)) ∙ ap (λ j. left j turn b) (sym start)

    pub turns_end : n ≤ k → left b.turns turn b ≡ Halt (Over OutOfTurns) a
    turns_end h =
        let e : n - k ≡ 0 = omega arith in
        ap (λ j. left j turn b) (sym start) ∙ sym here ∙ ap (λ j. left j turn a) e
