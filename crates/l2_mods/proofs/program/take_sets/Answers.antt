use Rattle.std.proofs.Common.{◌≡◌, ◌∙◌, ap, sym, refl, arith, ◌++◌, ◌∷◌, [], length, ◌+◌, ◌<◌, ◌≤◌, List}
use Rattle.std.specs.Prelude.{slice_set, slice_index_or}
use Rattle.std.proofs.lemmas.List.{length-append}
use Rattle.l2_program.specs.declared.program.LoopInfo.{LoopInfo}
use Rattle.l2_mods.proofs.Sets.{take_no_sets, length_taken, one_more, enough}
use Rattle.l2_mods.proofs.program.take_sets.Goals as goal

pub loop-s-init : goal.loop-s-init
loop-s-init c = record { taken = sym (take_no_sets c.args.loops.items); index = omega arith; last = λ h. refl }

pub loop-s-preserved-then-index-len : goal.loop-s-preserved-then-index-len
loop-s-preserved-then-index-len c =
    let size : length c.loop-s.loops.items ≡ length c.args.loops.items = ap (λ (xs : List LoopInfo). length xs) c.loop-s.invariant.taken ∙ length_taken c.args.loops.items c.loop-s.yielded in
    let inside : c.loop-s.index < length c.loop-s.loops.items = omega (arith, c.if-index-len.true, c.len.ensures) in
    let last : c.loop-s.index ≡ length c.loop-s.yielded = c.loop-s.invariant.last (omega arith) in
    let e : length (c.loop-s.yielded ++ c.in-Some.s ∷ []) ≡ length c.loop-s.yielded + 1 = length-append c.loop-s.yielded (c.in-Some.s ∷ []) in
    record {
      taken =
          ap (slice_set c.loop-s.loops.items c.loop-s.index) c.give.ensures
          ∙ ap (λ (xs : List LoopInfo). slice_set xs c.loop-s.index (record c.index_mut.result.now { mods = c.in-Some.s.mods; vars = c.in-Some.s.vars })) c.loop-s.invariant.taken
          ∙ one_more c.args.loops.items c.loop-s.yielded c.in-Some.s c.loop-s.index c.index_mut.result.now last (omega arith)
          (c.index_mut.ensures.value ∙ ap (λ (xs : List LoopInfo). slice_index_or xs c.loop-s.index c.index_mut.result.now) c.loop-s.invariant.taken);
      index = omega arith;
      last = λ h. omega arith;
    }

pub loop-s-preserved : goal.loop-s-preserved
loop-s-preserved c =
    let size : length c.loop-s.loops.items ≡ length c.args.loops.items = ap (λ (xs : List LoopInfo). length xs) c.loop-s.invariant.taken ∙ length_taken c.args.loops.items c.loop-s.yielded in
    let outside : length c.loop-s.loops.items ≤ c.loop-s.index = omega (arith, c.if-index-len.false, c.len.ensures) in
    let index = c.loop-s.invariant.index in
    let e : length (c.loop-s.yielded ++ c.in-Some.s ∷ []) ≡ length c.loop-s.yielded + 1 = length-append c.loop-s.yielded (c.in-Some.s ∷ []) in
    record {
      taken = c.loop-s.invariant.taken ∙ enough c.args.loops.items c.loop-s.yielded c.in-Some.s (omega arith);
      index = omega arith;
      last = λ h. absurd (omega arith);
    }
