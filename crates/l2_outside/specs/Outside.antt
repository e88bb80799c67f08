-- What the traits of the outside tell: files by name, what was written, and counts of faults.
use Rattle.std.specs.Prelude.{◌≡◌, ◌≢◌, ◌≤◌, ◌+◌, ◌-◌, ◌^◌, ◌++◌, ℕ, min, List, length, take, ⊤, Option, None, Some, MatchOption, option_map}
use Rattle.std.specs.Ordering.{nat_cmp}
use Rattle.std.specs.Cmp.Lexicographic.{slice_cmp}
use Rattle.std.specs.FinMap as map

-- files by their names; names and contents are bytes
abbrev pub Files : Type 0
Files = map.FinMap (slice_cmp nat_cmp) (List ℕ)

-- the count one higher, but u64's last value where it stands there
abbrev pub raised : ℕ → ℕ
raised count = min (count + 1) (2 ^ 64 - 1)

-- a count rose: it is greater now, or stands at u64's last value
abbrev pub Rose : ℕ → ℕ → Type 0
Rose before now = raised before ≤ now

-- the content of a file
abbrev pub content : Files → List ℕ → Option (List ℕ)
content files name = map.get files name

-- where files are told, they have the name, and these are the first `most` bytes of its content
abbrev pub HandsOver : Option Files → List ℕ → ℕ → List ℕ → Type 0
HandsOver None name most bytes = ⊤
HandsOver (Some files) name most bytes = MatchOption (content files name) ⊥ (λ all. bytes ≡ take most all)

-- files are told, and lack the name
abbrev pub Lacks : Option Files → List ℕ → Type 0
Lacks None name = ⊥
Lacks (Some files) name = content files name ≡ None

-- told files stay told, and have the name set to these bytes
abbrev pub with_file : Option Files → List ℕ → List ℕ → Option Files
with_file files name bytes = option_map (λ all. map.insert all name bytes) files

-- told files stay told, and every other name is as it was
abbrev pub KeepsOthers : Option Files → Option Files → List ℕ → Type 0
KeepsOthers None new name = new ≡ None
KeepsOthers (Some old) None name = ⊥
KeepsOthers (Some old) (Some new) name = (q : List ℕ) → q ≢ name → content new q ≡ content old q

-- told bytes with these behind them
abbrev pub grown : Option (List ℕ) → List ℕ → Option (List ℕ)
grown written bytes = option_map (λ all. all ++ bytes) written

-- told bytes grew by the first `n` of these bytes, for some `n`
abbrev pub GrewByPrefix : Option (List ℕ) → Option (List ℕ) → List ℕ → Type 0
GrewByPrefix old new bytes = (n : ℕ) × (n ≤ length bytes) × (new ≡ grown old (take n bytes))
