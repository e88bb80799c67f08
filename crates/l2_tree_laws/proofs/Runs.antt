-- What reading the parts of a tree, and then more, comes to.
use Rattle.std.proofs.Common.{◌≡◌, refl, ◌∙◌, Bool, false, List, ◌∷◌}
use Rattle.l2_grammar.specs.declared.states.Sort.{Sort}
use Rattle.l2_grammar.specs.Trees.{Seen, Tree, begin, token, child}
use Rattle.l2_tree.specs.Build.{Part, leaf, node, built, parts_of, parts_before}

-- reading so comes to what reading the rest so does
pub record Runs {R : Type 0} (g : List Part → R) (r : Tree) (h : List Part → R) : Type 0 where
  pub goes : (m : List Part) → g (parts_before r m) ≡ h m

-- where the rest isn't like this
pub record RunsIf {R : Type 0} (c : List Part → Bool) (g : List Part → R) (r : Tree) (h : List Part → R) : Type 0 where
  pub goes : (m : List Part) → c m ≡ false → g (parts_before r m) ≡ h m

pub by_begin : {R : Type 0} {g : List Part → R} {s : Sort} → Runs g (begin s) g
by_begin = record { goes = λ m. refl }

pub by_token : {R : Type 0} {g h : List Part → R} {r : Tree} {t : Seen} → Runs g r h → Runs g (token r t) (λ m. h (leaf t.kind t.at ∷ m))
by_token {t = t} i = record { goes = λ m. i.goes (leaf t.kind t.at ∷ m) }

pub by_child : {R : Type 0} {g h : List Part → R} {r b : Tree} → Runs g r h → Runs g (child r b) (λ m. h (node (built (parts_of b)) ∷ m))
by_child {b = b} i = record { goes = λ m. i.goes (node (built (parts_of b)) ∷ m) }

pub as_runs : {R : Type 0} {g h k : List Part → R} {r : Tree} → Runs g r h → ((m : List Part) → h m ≡ k m) → Runs g r k
as_runs i e = record { goes = λ m. i.goes m ∙ e m }

pub if_any : {R : Type 0} {c : List Part → Bool} {g h : List Part → R} {r : Tree} → Runs g r h → RunsIf c g r h
if_any i = record { goes = λ m d. i.goes m }

pub if_token : {R : Type 0} {c : List Part → Bool} {g h : List Part → R} {r : Tree} {t : Seen} → RunsIf c g r h → ((m : List Part) → c (leaf t.kind t.at ∷ m) ≡ false) → Runs g (token r t) (λ m. h (leaf t.kind t.at ∷ m))
if_token {t = t} i d = record { goes = λ m. i.goes (leaf t.kind t.at ∷ m) (d m) }

pub if_child : {R : Type 0} {c : List Part → Bool} {g h : List Part → R} {r b : Tree} → RunsIf c g r h → ((m : List Part) → c (node (built (parts_of b)) ∷ m) ≡ false) → Runs g (child r b) (λ m. h (node (built (parts_of b)) ∷ m))
if_child {b = b} i d = record { goes = λ m. i.goes (node (built (parts_of b)) ∷ m) (d m) }

pub as_if : {R : Type 0} {c : List Part → Bool} {g h k : List Part → R} {r : Tree} → Runs g r h → ((m : List Part) → c m ≡ false → h m ≡ k m) → RunsIf c g r k
as_if i e = record { goes = λ m d. i.goes m ∙ e m d }
