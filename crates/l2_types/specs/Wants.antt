-- What a call needs to know of the function that is called, and what it asks of its arguments.
use Rattle.std.specs.Prelude.{ℕ, ◌==◌, ◌&&◌, if◌then◌else◌, List, length, slice_get, Option, Some, None}
use Rattle.l2_syntax.specs.declared.token.Scalar.TheVariants.{Int}
use Rattle.l2_types.specs.declared.types.CType.{CType}
use Rattle.l2_types.specs.declared.types.CType.TheVariants.{Integer}
use Rattle.l2_types.specs.declared.state.Builtin.{Builtin}
use Rattle.l2_types.specs.declared.state.Builtin.TheVariants as name
use Rattle.l2_types.specs.declared.state.Meaning.{Meaning}
use Rattle.l2_types.specs.declared.state.Meaning.TheVariants as meaning
use Rattle.l2_types.specs.declared.state.Signature.{Signature}
use Rattle.l2_types.specs.declared.state.Callable.{Callable}
use Rattle.l2_types.specs.declared.state.Want.{Want}
use Rattle.l2_types.specs.declared.state.Want.TheVariants.{Anything, Fitting, Testing, Literal}
use Rattle.l2_types.specs.States.{State}

abbrev pub fitting : Option CType → Want
fitting None = Anything
fitting (Some t) = Fitting t

abbrev pub parameter : List CType → ℕ → ℕ → Want
parameter ts count i = if length ts == count then fitting (slice_get ts i) else Anything

abbrev pub wanted_by : Option Signature → ℕ → ℕ → Want
wanted_by None count i = Anything
wanted_by (Some g) count i = parameter g.parameters count i

abbrev pub wanted_by_function : State → ℕ → ℕ → ℕ → Want
wanted_by_function s f count i = wanted_by (slice_get s.functions f) count i

abbrev pub wanted_by_builtin : Builtin → ℕ → Want
wanted_by_builtin name.Assert count = if count == 1 then Testing else Anything
wanted_by_builtin name.Assume count = if count == 1 then Testing else Anything
wanted_by_builtin name.Exit count = if count == 1 then Fitting (Integer Int) else Anything
wanted_by_builtin name.Abort count = Anything
wanted_by_builtin name.ReachError count = Anything
wanted_by_builtin name.Fail count = Anything
wanted_by_builtin name.AssertFail count = Literal
wanted_by_builtin (name.Choice k) count = Anything

abbrev pub wanted : State → Option Meaning → ℕ → ℕ → Want
wanted s (Some (meaning.Function f)) count i = wanted_by_function s f count i
wanted s (Some (meaning.Builtin b)) count i = wanted_by_builtin b count
wanted s _ count i = Anything

abbrev pub callable_of : Option Signature → ℕ → Option Callable
callable_of None count = None
callable_of (Some g) count =
    Some (record { number = g.number; result = g.result; fits = g.is_defined && length g.parameters == count })

abbrev pub callable : State → ℕ → ℕ → Option Callable
callable s f count = callable_of (slice_get s.functions f) count
