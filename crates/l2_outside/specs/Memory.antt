-- The shelf and the sink in memory: the files that a map tells, which calls fail, and how much one write takes.
use Rattle.std.specs.Prelude.{◌≡◌, ◌<◌, ℕ, Bool, if◌then◌else◌, min, List, map, string_bytes, nat_eq, Vec, String}
use Rattle.std.specs.List.{list_any}
use Rattle.std.specs.declared.alloc.Global.{Global}
use Rattle.std.specs.BTreeMap.{BTreeMap}
use Rattle.std.specs.FinMap.{from_entries}
use Rattle.l2_outside.specs.Outside.{Files, raised}

-- each file's name and content
abbrev pub told : BTreeMap (String Global) (Vec ℕ Global) → Files
told m = from_entries (map (λ e. (string_bytes e.0, e.1.items)) m.entries)

-- after this many calls the next one's number stands among those that fail
abbrev pub fails_next : List ℕ → ℕ → Bool
fails_next failing calls = list_any (λ n. nat_eq n (raised calls)) failing

-- how many bytes of a piece a write takes: no more than there are, than a write may take, and than there is room for
abbrev pub amount : ℕ → ℕ → ℕ → ℕ
amount len most_per_write room_left = min (min len most_per_write) room_left

-- a write takes nothing of a piece that isn't empty
abbrev pub TakesNothing : ℕ → ℕ → ℕ → Type 0
TakesNothing len most_per_write room_left = (0 < len) × (amount len most_per_write room_left ≡ 0)

-- a count of faults behind a call: it rises where the call has a fault, and stays otherwise
abbrev pub counted : Bool → ℕ → ℕ
counted fault count = if fault then raised count else count
