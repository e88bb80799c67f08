use Rattle.std.proofs.Common.{◌≡◌, ap, sym, ◌∙◌, map}
use Rattle.l2_tree.specs.Build.{unit_of}
use Rattle.l2_tree.specs.Units.{external_tree}
use Rattle.l2_build.specs.Parts.{parts_of}
use Rattle.l2_build.specs.declared.error.BuildError.TheVariants as error
use Rattle.l2_parse_unit.proofs.Wholes.{never_unbuilt, built_run}
use Rattle.l2_parse_unit.proofs.built.externals.Goals as goal

pub returns-in-Ok : goal.returns-in-Ok
returns-in-Ok c =
    built_run c.unit_run_law.ensures c.args.text.now (map external_tree c.in-Ok.parts.items) c.requires.unit c.requires.keeps
    (ap (λ xs. unit_of (parts_of xs)) (sym c.deref.ensures.value) ∙ c.in-Ok.ensures.ok)

pub unreachable-requires : goal.unreachable-requires
unreachable-requires c =
    never_unbuilt c.unit_built_law.ensures c.args.text.now c.requires.unit c.requires.keeps (ap (λ xs. unit_of (parts_of xs)) (sym c.deref.ensures.value) ∙ c.in-Err.ensures.err (λ h. let e : error.Misfit ≡ error.NoMemory = sym c.in-Misfit.is ∙ h in cc))
