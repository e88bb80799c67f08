-- A program says what its text says, and each name is declared once.
use Rattle.std.proofs.Common.{◌≡◌, ℕ, ◌≤◌, ◌==◌, ℤ, true, false, if◌then◌else◌, List, [], ◌∷◌, ◌++◌, length, take, Option, Some, None, refl, ap, ◌∙◌, subst, arith}
use Rattle.std.specs.Prelude.{option_map, Bool, ◌||◌, nat_lt, slice_get, ◌+◌, suc}
use Rattle.std.proofs.lemmas.List.{length-append}
use Rattle.std.proofs.Math.Seq.{take-append_seam, take-length}
use Rattle.l2_syntax.specs.declared.place.Place.{Place}
use Rattle.l2_bits.specs.Types.{int_type}
use Rattle.l2_bits.specs.Values.{is_value}
use Rattle.l2_runs.specs.declared.cells.CellValue.TheVariants as cell
use Rattle.l2_runs.specs.Numbers.{at_number}
use Rattle.l2_runs.specs.declared.kind.Kind.TheVariants.{Assertion}
use Rattle.l2_runs.specs.declared.operators.UnaryOperator.{UnaryOperator}
use Rattle.l2_runs.specs.declared.operators.BinaryOperator.{BinaryOperator}
use Rattle.l2_program.specs.declared.program.ObjectInfo.{ObjectInfo}
use Rattle.l2_small.specs.SmallTrees as small
use Rattle.l2_small.specs.SmallTrees.{SmallExprTree, SmallStmtTree, SmallStmtTrees, SmallUnitTree}
use Rattle.l2_program.specs.Checked as checked
use Rattle.l2_program.specs.Checked.{TypedTree, CheckedTree, CheckedTrees}
use Rattle.l2_program.specs.Programs.{ProgramTree}
use Rattle.l2_meaning.specs.Changes.{with_loop_sets}
use Rattle.l2_small_check.specs.declared.entry.Entry.{Entry}
use Rattle.l2_small.specs.SmallForm.{and_then}
use Rattle.l2_small_check.specs.Elaboration.{Scope, Found, Elaborated, lookup, int_cell, variable, read_of, assignment, assertion, loop, stays, made, within, typed, declare, is_declared, most_cells, object_number, loop_number, check_number, with_loop, with_check, chain, block, is_declaration, body_of, item, items, nothing_found, program_with, program_of}
use Rattle.l2_small_check.proofs.Places.{is_declared_more}
use Rattle.l2_small_check.specs.Spelling.{AreApart, or_else, found_in, plain, plain_item, plain_items, nowhere, object_of, spelt, spelt_item, spelt_onto}

-- a list is what another begins with
abbrev pub Begins : {A : Type 0} → List A → List A → Type 0
Begins a b = take (length a) b ≡ a

begins_trans : {A : Type 0} (a b c : List A) → Begins a b → Begins b c → Begins a c
begins_trans [] b c p q = refl
begins_trans (x ∷ a) [] c p q = grind arith
begins_trans (x ∷ a) (y ∷ b) [] p q = grind arith
begins_trans (x ∷ a) (y ∷ b) (z ∷ c) p q = let r = begins_trans a b c (grind arith) (grind arith) in grind arith

-- what a list grown by an item begins with has the item there
at_end : {A : Type 0} (a : List A) (x : A) (b : List A) → Begins (a ++ x ∷ []) b → slice_get b (length a) ≡ Some x
at_end [] x [] p = grind arith
at_end [] x (y ∷ b) p = grind arith
at_end (w ∷ a) x [] p = grind arith
at_end (w ∷ a) x (y ∷ b) p = at_end a x b (grind arith)

pub at_last : {A : Type 0} (a : List A) (x : A) (b : List A) → Begins (a ++ x ∷ []) b → at_number b (length a + 1) ≡ Some x
at_last a x b p = let e : length a + 1 ≡ suc (length a) = omega arith in ap (at_number b) e ∙ at_end a x b p

pub record Grows (a b : Found) : Type 0 where
  pub objects : Begins a.objects b.objects
  pub loops : Begins a.loops b.loops
  pub checks : Begins a.checks b.checks

pub grows_not : (a : Found) → Grows a a
grows_not a = record { objects = take-length a.objects; loops = take-length a.loops; checks = take-length a.checks }

pub grows_trans : (a b c : Found) → Grows a b → Grows b c → Grows a c
grows_trans a b c p q = record {
  objects = begins_trans a.objects b.objects c.objects p.objects q.objects;
  loops = begins_trans a.loops b.loops c.loops p.loops q.loops;
  checks = begins_trans a.checks b.checks c.checks p.checks q.checks;
}

-- each name at one object, and not too many of them
abbrev Apart : Found → Type 0
Apart found = AreApart found.objects × (length found.objects ≤ most_cells)

apart_more : (objects : List ObjectInfo) (o : ObjectInfo) → AreApart objects → is_declared objects o.name ≡ false → AreApart (objects ++ o ∷ [])
apart_more [] o all new = (refl, tt)
apart_more (x ∷ rest) o (first, others) new =
    let both = is_declared_more rest o x.name in
    (grind arith, apart_more rest o others (grind arith))

module _ (f : Found) where
  -- the objects of names bear them
  abbrev Sound : Scope → Type 0
  Sound [] = Unit {0}
  Sound (e ∷ rest) = ((object_of f e.object).name ≡ e.name) × Sound rest

  sound_more : (scope : Scope) (e : Entry) → Sound scope → (object_of f e.object).name ≡ e.name → Sound (scope ++ e ∷ [])
  sound_more [] e all this = (this, tt)
  sound_more (x ∷ rest) e (first, others) this = (first, sound_more rest e others this)

  abbrev Finds : Scope → ℕ → Option ℕ → Type 0
  Finds scope n None = Unit {0}
  Finds scope n (Some o) = Sound scope → (object_of f o).name ≡ n

  finds : (scope : Scope) (n : ℕ) → Finds scope n (lookup scope n)
  finds [] n = tt
  finds (e ∷ rest) n = go (e.name == n) refl (lookup rest n) (finds rest n) where
    go : (b : Bool) → (e.name == n) ≡ b → (x : Option ℕ) → Finds rest n x → Finds (e ∷ rest) n (if b then Some e.object else x)
    go true h x there = λ all. let q : e.name ≡ n = grind arith in all.0 ∙ q
    go false h None there = tt
    go false h (Some o) there = λ all. there all.1

  -- ---- expressions

  abbrev SaysValue : Scope → SmallExprTree → Option TypedTree → Type 0
  SaysValue scope e None = Unit {0}
  SaysValue scope e (Some t) = Sound scope → spelt f t ≡ plain e

  says_name : (scope : Scope) (n : ℕ) (p : Place) (x : Option ℕ) → Finds scope n x → SaysValue scope (small.Name n p) (option_map read_of x)
  says_name scope n p None h = tt
  says_name scope n p (Some o) h = λ all. ap (λ m. small.Name m nowhere) (h all)

  says_unary : (scope : Scope) (op : UnaryOperator) (e : SmallExprTree) (x : Option TypedTree) → SaysValue scope e x → SaysValue scope (small.Unary op e) (option_map (checked.Unary op int_type 0) x)
  says_unary scope op e None h = tt
  says_unary scope op e (Some t) h = λ all. ap (small.Unary op) (h all)

  says_binary : (scope : Scope) (op : BinaryOperator) (e d : SmallExprTree) (x y : Option TypedTree) → SaysValue scope e x → SaysValue scope d y →
      SaysValue scope (small.Binary op e d) (and_then x (λ a. option_map (checked.Binary op int_type 0 a) y))
  says_binary scope op e d None y h k = tt
  says_binary scope op e d (Some t) None h k = tt
  says_binary scope op e d (Some t) (Some u) h k = λ all. ap (λ a. small.Binary op a (spelt f u)) (h all) ∙ ap (small.Binary op (plain e)) (k all)

  says_parenthesised : (scope : Scope) (e : SmallExprTree) (x : Option TypedTree) → SaysValue scope e x → SaysValue scope (small.Parenthesised e) x
  says_parenthesised scope e None h = tt
  says_parenthesised scope e (Some t) h = h

  says_number : (scope : Scope) (z : ℤ) (b : Bool) → SaysValue scope (small.Number z) (if b then Some (checked.Constant int_cell (cell.Number z)) else None)
  says_number scope z true = λ all. refl
  says_number scope z false = tt

  value_says : (scope : Scope) (e : SmallExprTree) → SaysValue scope e (typed scope e)
  value_says scope (small.Name n p) = says_name scope n p (lookup scope n) (finds scope n)
  value_says scope (small.Number z) = says_number scope z (is_value int_type z)
  value_says scope (small.Choice p) = λ all. refl
  value_says scope (small.Parenthesised e) = says_parenthesised scope e (typed scope e) (value_says scope e)
  value_says scope (small.Unary op e) = says_unary scope op e (typed scope e) (value_says scope e)
  value_says scope (small.Binary op e d) = says_binary scope op e d (typed scope e) (typed scope d) (value_says scope e) (value_says scope d)

  -- ---- statements

  record SaysAt (scope : Scope) (found : Found) (r_scope : Scope) (r_found : Found) (Said : Type 0) : Type 0 where
    grows : Grows found r_found
    apart : Apart found → Apart r_found
    says : Grows r_found f → Sound scope → Sound r_scope × Said

  abbrev SaysDeclared : ℕ → Place → Scope → Found → Option (Elaborated ℕ) → Type 0
  SaysDeclared n p scope found None = Unit {0}
  SaysDeclared n p scope found (Some d) = SaysAt scope found d.scope d.found (((object_of f d.tree).name ≡ n) × ((object_of f d.tree).place ≡ p))

  abbrev Says : SmallStmtTree → Scope → Found → Option (Elaborated CheckedTree) → Type 0
  Says s scope found None = Unit {0}
  Says s scope found (Some r) = SaysAt scope found r.scope r.found (spelt_item f r.tree ≡ plain_item s)

  abbrev SaysAll : SmallStmtTrees → Scope → Found → Option (Elaborated (List CheckedTree)) → Type 0
  SaysAll all scope found None = Unit {0}
  SaysAll all scope found (Some r) = SaysAt scope found r.scope r.found (spelt_onto f small.none (chain r.tree) ≡ plain_items all)

  declared_says : (scope : Scope) (found : Found) (n : ℕ) (p : Place) → SaysDeclared n p scope found (declare scope found n p)
  declared_says scope found n p = go (is_declared found.objects n || nat_lt most_cells (object_number found)) refl where
    with_object : Found
    with_object = record found { objects = found.objects ++ variable n p ∷ [] }

    it_is : Grows with_object f → object_of f (object_number found) ≡ variable n p
    it_is g =
        ap (or_else (variable 0 nowhere)) (at_last found.objects (variable n p) f.objects g.objects)

    go : (b : Bool) → (is_declared found.objects n || nat_lt most_cells (object_number found)) ≡ b → SaysDeclared n p scope found (if b then None else Some (record { tree = object_number found; scope = scope ++ record { name = n; object = object_number found } ∷ []; found = with_object }))
    go true h = tt
    go false h = record {
      grows = record { objects = take-append_seam found.objects (variable n p ∷ []); loops = take-length found.loops; checks = take-length found.checks };
      apart = λ a.
          let new : is_declared found.objects n ≡ false = grind arith in
          let few : length (found.objects ++ variable n p ∷ []) ≤ most_cells = grind (arith, length-append) in
          (apart_more found.objects (variable n p) a.0 new, few);
      says = λ g all. (sound_more scope (record { name = n; object = object_number found }) all (ap (λ o. o.name) (it_is g)), (ap (λ o. o.name) (it_is g), ap (λ o. o.place) (it_is g)));
    }

  says_block : (all : SmallStmtTrees) (scope : Scope) (found : Found) (x : Option (Elaborated (List CheckedTree))) → SaysAll all scope found x →
      Says (small.Block all) scope found (option_map (made block) (within scope x))
  says_block all scope found None h = tt
  says_block all scope found (Some r) h = record { grows = h.grows; apart = h.apart; says = λ g sound. (sound, ap small.Block (h.says g sound).1) }

  says_declaration : (n : ℕ) (p : Place) (scope : Scope) (found : Found) (x : Option (Elaborated ℕ)) → SaysDeclared n p scope found x →
      Says (small.Declare n p) scope found (option_map (made checked.Declare) x)
  says_declaration n p scope found None h = tt
  says_declaration n p scope found (Some d) h = record {
    grows = h.grows;
    apart = h.apart;
    says = λ g sound.
        let k = h.says g sound in (k.0, ap (λ m. small.Declare m (object_of f d.tree).place) k.1.0 ∙ ap (small.Declare n) k.1.1);
  }

  says_initialise : (n : ℕ) (p : Place) (e : SmallExprTree) (scope : Scope) (found : Found) (x : Option (Elaborated ℕ)) → SaysDeclared n p scope found x →
      Says (small.Initialise n p e) scope found (and_then x (λ d. option_map (λ t. stays d.scope d.found (checked.Initialise d.tree t)) (typed d.scope e)))
  says_initialise n p e scope found None h = tt
  says_initialise n p e scope found (Some d) h = go (typed d.scope e) (value_says d.scope e) where
    go : (y : Option TypedTree) → SaysValue d.scope e y → Says (small.Initialise n p e) scope found (option_map (λ t. stays d.scope d.found (checked.Initialise d.tree t)) y)
    go None v = tt
    go (Some t) v = record {
      grows = h.grows;
      apart = h.apart;
      says = λ g sound.
          let k = h.says g sound in
          (k.0, ap (λ m. small.Initialise m (object_of f d.tree).place (spelt f t)) k.1.0 ∙ ap (λ q. small.Initialise n q (spelt f t)) k.1.1 ∙ ap (small.Initialise n p) (v k.0));
    }

  says_assign : (n : ℕ) (p : Place) (e : SmallExprTree) (scope : Scope) (found : Found) (x : Option ℕ) (y : Option TypedTree) → Finds scope n x → SaysValue scope e y →
      Says (small.Assign n p e) scope found (and_then x (λ o. option_map (λ t. stays scope found (assignment o t)) y))
  says_assign n p e scope found None y h v = tt
  says_assign n p e scope found (Some o) None h v = tt
  says_assign n p e scope found (Some o) (Some t) h v = record {
    grows = grows_not found;
    apart = λ a. a;
    says = λ g sound.
        (sound, ap (λ m. small.Assign m nowhere (spelt f t)) (h sound) ∙ ap (small.Assign n nowhere) (v sound));
  }

  says_within : (s : SmallStmtTree) (scope : Scope) (found : Found) (x : Option (Elaborated CheckedTree)) → Says s scope found x → Says s scope found (within scope x)
  says_within s scope found None h = tt
  says_within s scope found (Some r) h = record { grows = h.grows; apart = h.apart; says = λ g sound. (sound, (h.says g sound).1) }

  says_body : (s : SmallStmtTree) (scope : Scope) (found : Found) (x : Option (Elaborated CheckedTree)) → Says s scope found x → Says s scope found (body_of s (within scope x))
  says_body s scope found x h = go (is_declaration s) where
    go : (b : Bool) → Says s scope found (if b then None else within scope x)
    go true = tt
    go false = says_within s scope found x h

  says_if : (e : SmallExprTree) (s : SmallStmtTree) (scope : Scope) (found : Found) (x : Option TypedTree) (y : Option (Elaborated CheckedTree)) → SaysValue scope e x → Says s scope found y →
      Says (small.If e s) scope found (and_then x (λ t. option_map (made (checked.If t)) y))
  says_if e s scope found None y v h = tt
  says_if e s scope found (Some t) None v h = tt
  says_if e s scope found (Some t) (Some r) v h = record {
    grows = h.grows;
    apart = h.apart;
    says = λ g sound.
        let k = h.says g sound in (k.0, ap (λ d. small.If d (spelt_item f r.tree)) (v sound) ∙ ap (small.If (plain e)) k.1);
  }

  says_if_else : (e : SmallExprTree) (s z : SmallStmtTree) (scope : Scope) (found : Found) (x : Option TypedTree) (y : Option (Elaborated CheckedTree)) → SaysValue scope e x → Says s scope found y →
      ((later : Found) → Says z scope later (item scope later z)) →
      Says (small.IfElse e s z) scope found (and_then x (λ t. and_then y (λ r. option_map (made (checked.IfElse t r.tree)) (body_of z (within scope (item scope r.found z))))))
  says_if_else e s z scope found None y v h other = tt
  says_if_else e s z scope found (Some t) None v h other = tt
  says_if_else e s z scope found (Some t) (Some r) v h other = go (body_of z (within scope (item scope r.found z))) (says_body z scope r.found (item scope r.found z) (other r.found)) where
    go : (w : Option (Elaborated CheckedTree)) → Says z scope r.found w → Says (small.IfElse e s z) scope found (option_map (made (checked.IfElse t r.tree)) w)
    go None k = tt
    go (Some q) k = record {
      grows = grows_trans found r.found q.found h.grows k.grows;
      apart = λ a. k.apart (h.apart a);
      says = λ g sound.
          let first = h.says (grows_trans r.found q.found f k.grows g) sound in
          let second = k.says g sound in
          (second.0, ap (λ d. small.IfElse d (spelt_item f r.tree) (spelt_item f q.tree)) (v sound) ∙ ap (λ d. small.IfElse (plain e) d (spelt_item f q.tree)) first.1 ∙ ap (small.IfElse (plain e) (plain_item s)) second.1);
    }

  says_while : (p : Place) (e : SmallExprTree) (s : SmallStmtTree) (scope : Scope) (found : Found) (x : Option TypedTree) (y : Option (Elaborated CheckedTree)) → SaysValue scope e x → Says s scope (with_loop found p) y →
      Says (small.While p e s) scope found (and_then x (λ t. option_map (made (loop (loop_number found) t)) y))
  says_while p e s scope found None y v h = tt
  says_while p e s scope found (Some t) None v h = tt
  says_while p e s scope found (Some t) (Some r) v h =
      let more : Grows found (with_loop found p) = record { objects = take-length found.objects; loops = take-append_seam found.loops _; checks = take-length found.checks } in
      record {
        grows = grows_trans found (with_loop found p) r.found more h.grows;
        apart = h.apart;
        says = λ g sound.
            let all = grows_trans (with_loop found p) r.found f h.grows g in
            let it = ap (or_else (record { place = nowhere; function = 0; mods = []; vars = [] })) (at_last found.loops (record { place = p; function = 1; mods = []; vars = [] }) f.loops all.loops) in
            let k = h.says g sound in
            (k.0, ap (λ l. small.While l.place (spelt f t) (spelt_item f r.tree)) it ∙ ap (λ d. small.While p d (spelt_item f r.tree)) (v sound) ∙ ap (small.While p (plain e)) k.1);
      }

  says_assert : (p : Place) (e : SmallExprTree) (scope : Scope) (found : Found) (x : Option TypedTree) → SaysValue scope e x →
      Says (small.Assert p e) scope found (option_map (λ t. stays scope (with_check found p) (assertion (check_number found) t)) x)
  says_assert p e scope found None v = tt
  says_assert p e scope found (Some t) v = record {
    grows = record { objects = take-length found.objects; loops = take-length found.loops; checks = take-append_seam found.checks _ };
    apart = λ a. a;
    says = λ g sound.
        let it = ap (or_else (record { place = nowhere; kind = Assertion })) (at_last found.checks (record { place = p; kind = Assertion }) f.checks g.checks) in
        (sound, ap (λ c. small.Assert c.place (spelt f t)) it ∙ ap (small.Assert p) (v sound));
  }

  says_return : (e : SmallExprTree) (scope : Scope) (found : Found) (x : Option TypedTree) → SaysValue scope e x → Says (small.Return e) scope found (option_map (λ t. stays scope found (checked.Return t)) x)
  says_return e scope found None v = tt
  says_return e scope found (Some t) v = record { grows = grows_not found; apart = λ a. a; says = λ g sound. (sound, ap small.Return (v sound)) }

  spelt_end : (ts : SmallStmtTrees) (all : List CheckedTree) (t : CheckedTree) → spelt_onto f ts (chain (all ++ t ∷ [])) ≡ small.also (spelt_onto f ts (chain all)) (spelt_item f t)
  spelt_end ts [] t = refl
  spelt_end ts (s ∷ rest) t = spelt_end (small.also ts (spelt_item f s)) rest t

  says_also : (all : SmallStmtTrees) (s : SmallStmtTree) (scope : Scope) (found : Found) (x : Option (Elaborated (List CheckedTree))) → SaysAll all scope found x →
      ((there : Scope) (later : Found) → Says s there later (item there later s)) →
      SaysAll (small.also all s) scope found (and_then x (λ r. option_map (made (λ t. r.tree ++ t ∷ [])) (item r.scope r.found s)))
  says_also all s scope found None h next = tt
  says_also all s scope found (Some r) h next = go (item r.scope r.found s) (next r.scope r.found) where
    go : (w : Option (Elaborated CheckedTree)) → Says s r.scope r.found w → SaysAll (small.also all s) scope found (option_map (made (λ t. r.tree ++ t ∷ [])) w)
    go None k = tt
    go (Some q) k = record {
      grows = grows_trans found r.found q.found h.grows k.grows;
      apart = λ a. k.apart (h.apart a);
      says = λ g sound.
          let first = h.says (grows_trans r.found q.found f k.grows g) sound in
          let second = k.says g first.0 in
          (second.0, spelt_end small.none r.tree q.tree ∙ ap (λ ts. small.also ts (spelt_item f q.tree)) first.1 ∙ ap (small.also (plain_items all)) second.1);
    }

  mutual
    item_says : (scope : Scope) (found : Found) (s : SmallStmtTree) → Says s scope found (item scope found s)
    item_says scope found (small.Block all) = says_block all scope found (items scope found all) (items_says scope found all)
    item_says scope found (small.Declare n p) = says_declaration n p scope found (declare scope found n p) (declared_says scope found n p)
    item_says scope found (small.Initialise n p e) = says_initialise n p e scope found (declare scope found n p) (declared_says scope found n p)
    item_says scope found (small.Assign n p e) = says_assign n p e scope found (lookup scope n) (typed scope e) (finds scope n) (value_says scope e)
    item_says scope found (small.If e s) = says_if e s scope found (typed scope e) (body_of s (within scope (item scope found s))) (value_says scope e) (says_body s scope found (item scope found s) (item_says scope found s))
    item_says scope found (small.IfElse e s z) =
        says_if_else e s z scope found (typed scope e) (body_of s (within scope (item scope found s))) (value_says scope e) (says_body s scope found (item scope found s) (item_says scope found s)) (λ later. item_says scope later z)
    item_says scope found (small.While p e s) =
        says_while p e s scope found (typed scope e) (body_of s (within scope (item scope (with_loop found p) s))) (value_says scope e)
        (says_body s scope (with_loop found p) (item scope (with_loop found p) s) (item_says scope (with_loop found p) s))
    item_says scope found (small.Assert p e) = says_assert p e scope found (typed scope e) (value_says scope e)
    item_says scope found (small.Return e) = says_return e scope found (typed scope e) (value_says scope e)

    items_says : (scope : Scope) (found : Found) (all : SmallStmtTrees) → SaysAll all scope found (items scope found all)
    items_says scope found small.none = record { grows = grows_not found; apart = λ a. a; says = λ g sound. (sound, refl) }
    items_says scope found (small.also all s) = says_also all s scope found (items scope found all) (items_says scope found all) (λ there later. item_says there later s)

-- the whole
pub whole_says : (u : SmallUnitTree) (r : Elaborated (List CheckedTree)) → items [] nothing_found u.items ≡ Some r → spelt_item r.found (block r.tree) ≡ small.Block (plain_items u.items)
whole_says u r e =
    let h : SaysAll r.found u.items [] nothing_found (Some r) = subst (λ x. SaysAll r.found u.items [] nothing_found x) e (items_says r.found [] nothing_found u.items) in
    ap small.Block (h.says (grows_not r.found) tt).1

-- the objects of the whole
abbrev UnitApart : Option ProgramTree → Type 0
UnitApart None = Unit {0}
UnitApart (Some p) = Apart (found_in p)

apart_unit : (u : SmallUnitTree) (x : Option (Elaborated (List CheckedTree))) → SaysAll nothing_found u.items [] nothing_found x → UnitApart (option_map with_loop_sets (option_map (program_with u) x))
apart_unit u None h = tt
apart_unit u (Some r) h = h.apart (tt, omega arith)

unit_apart : (u : SmallUnitTree) (p : ProgramTree) → program_of u ≡ Some p → Apart (found_in p)
unit_apart u p e = subst UnitApart e (apart_unit u (items [] nothing_found u.items) (items_says nothing_found [] nothing_found u.items))

pub names_apart : (u : SmallUnitTree) (p : ProgramTree) → program_of u ≡ Some p → AreApart p.objects
names_apart u p e = (unit_apart u p e).0

pub few_objects : (u : SmallUnitTree) (p : ProgramTree) → program_of u ≡ Some p → length p.objects ≤ most_cells
few_objects u p e = (unit_apart u p e).1
