-- The code of a lawful program is well formed.
use Rattle.std.proofs.Common.{◌≡◌, ℕ, zero, suc, ◌+◌, ◌<◌, ◌≤◌, Bool, true, false, List, [], ◌∷◌, ◌++◌, length, map, take, drop, Option, Some, None, refl, sym, ap, subst, ◌∙◌, arith}
use Rattle.std.specs.Prelude.{slice_get, ◌==◌, if◌then◌else◌}
use Rattle.std.specs.Prelude as std
use Rattle.std.proofs.lemmas.List.{length-map}
use Rattle.l2_syntax.specs.declared.token.Name.{Name}
use Rattle.l2_runs.specs.declared.cells.CellType.{CellType}
use Rattle.l2_runs.specs.declared.cells.CellType.TheVariants.{Integer, Pointer}
use Rattle.l2_runs.specs.declared.cells.CellValue.{CellValue}
use Rattle.l2_runs.specs.declared.cells.CellValue.TheVariants.{Number, Null, Invalid, At}
use Rattle.l2_runs.specs.Numbers.{at_number}
use Rattle.l2_runs.specs.Fits.{Layout, CellsFit}
use Rattle.l2_program.specs.declared.program.ObjectInfo.{ObjectInfo}
use Rattle.l2_program.specs.declared.program.LoopInfo.{LoopInfo}
use Rattle.l2_program.specs.declared.program.StaticValue.{StaticValue}
use Rattle.l2_program.specs.Names.{declared_in, loops_in}
use Rattle.l2_program.specs.Programs.{ProgramTree, FunctionTree}
use Rattle.l2_meaning.specs.Rising as rising
use Rattle.l2_meaning.specs.Changes.{is_integer}
use Rattle.l2_meaning.specs.Execution.{cells_of, known_cells, main_among, value_in, first_cell}
use Rattle.l2_meaning.specs.Lawful.{Listing, IsLawful, IsStart, HoldStart, HoldObject, HoldStatics, HaveCells, cell_count}
use Rattle.l2_meaning.proofs.Numbers.{zero_value}
use Rattle.l2_meaning.proofs.LoopObjects.{loop_objects}
use Rattle.l2_code.specs.declared.code.CodeObject.{CodeObject}
use Rattle.l2_code.specs.declared.code.CodeLoop.{CodeLoop}
use Rattle.l2_code.specs.declared.code.Pointed.{Pointed}
use Rattle.l2_code.specs.declared.action.Action.TheVariants.{End}
use Rattle.l2_code.specs.Trees.{Nodes, none, more, join}
use Rattle.l2_code.specs.Values.{Types}
use Rattle.l2_code.specs.Modes.{object_cells, pointed_cells, types_of}
use Rattle.l2_code.specs.WellFormed.{EndsWithEnd, AreTyped, empty_scope, Names, names_of, IsNumber, All, Rise, StartsAs, StartAs, IsSized, IsObject, IsVariable, IsLoop, IsWellFormed, results}
use Rattle.l2_lower.specs.Emitting.{only}
use Rattle.l2_lower.specs.Statements.{declaration, deads, statement}
use Rattle.l2_lower.specs.Code.{code_object, code_objects, code_check, code_loop, declarations, body_code, main_code, code}
use Rattle.l2_lower.proofs.ProgramRuns.{program_types}
use Rattle.l2_lower.proofs.MainCode.{few_cells}
use Rattle.l2_lower.proofs.NeverStuck.{numbers_all, never_stuck}
use Rattle.l2_lower.proofs.Typing.{all_behind, from_counted, Sound, join_sound, none_sound}
use Rattle.l2_lower.proofs.ExpressionTypes.{names}
use Rattle.l2_lower.proofs.StatementTypes.{all_left, all_right, HasCells, FitsIn, fits_of, join_fits, declaration_sound, ends_sound, statement_fits}

some_same : {A : Type 0} (a b : A) → Some a ≡ Some b → a ≡ b
some_same a b e = cc

-- ---- the last instruction

ends_join : (xs ys : Nodes) → EndsWithEnd ys → EndsWithEnd (join xs ys)
ends_join none ys h = h
ends_join (more x none) none h = absurd h
ends_join (more x none) (more y ys) h = h
ends_join (more x (more z zs)) ys h = ends_join (more z zs) ys h

main_ends : (cells : Layout) (f : Option FunctionTree) → EndsWithEnd (main_code cells 1 f).nodes
main_ends cells None = tt
main_ends cells (Some f) =
    let d = declarations cells 1 f.parameters in
    let s = statement cells f.parameters d.next f.body in
    ends_join d.nodes (body_code cells d.next f).nodes (ends_join s.nodes (join (deads f.parameters) (only End)) (ends_join (deads f.parameters) (only End) tt))

-- ---- the instructions

module _ (cells : Layout) (pointed : ℕ → List CellType) (g : Listing) (loops : ℕ) (small : (o : ℕ) → length (cells o) ≤ 65536) where
  parameters_sound : (os : List ℕ) (n : ℕ) → All (HasCells cells pointed g loops small) os → (known : _) → Sound (names cells pointed g loops small) n known (declarations cells n os).nodes (declarations cells n os).next
  parameters_sound [] n h known = none_sound (names cells pointed g loops small) n known
  parameters_sound (o ∷ os) n (p, q) known =
      let d = declaration cells n o in
      let r = declarations cells d.next os in
      join_sound (names cells pointed g loops small) n d.next r.next known d.nodes r.nodes (declaration_sound cells pointed g loops small n o known p) (parameters_sound os d.next q (all_behind known d.nodes))

-- ---- lists

first_has : (os : List ObjectInfo) (i : ℕ) → HaveCells os → i < length os → 0 < length (known_cells (slice_get os i))
first_has [] i h l = absurd (omega arith)
first_has (o ∷ os) zero (p, q) l = p
first_has (o ∷ os) (suc i) (p, q) l = first_has os i q (omega arith)

objects_few : (os : List ObjectInfo) → HaveCells os → length os ≤ cell_count os
objects_few [] h = omega arith
objects_few (o ∷ os) (p, q) = let k = objects_few os q in omega arith

code_length : (ns : List Name) (values : List StaticValue) (os : List ObjectInfo) → length (code_objects ns values os) ≡ length os
code_length ns values [] = refl
code_length ns values (o ∷ os) = go o.is_static (λ vs. code_length ns vs os) where
  go : (x : Bool) → ((vs : List StaticValue) → length (code_objects ns vs os) ≡ length os) →
      length (if x then code_object ns o (map value_in (take (length o.cells) values)) ∷ code_objects ns (drop (length o.cells) values) os else (code_object ns o (map first_cell o.cells) ∷ code_objects ns values os)) ≡ suc (length os)
  go true rest = let e = rest (drop (length o.cells) values) in omega arith
  go false rest = let e = rest values in omega arith

-- ---- objects

rising_too : (ns : List ℕ) → rising.Rise ns → Rise ns
rising_too [] h = tt
rising_too (n ∷ []) h = tt
rising_too (n ∷ m ∷ ns) (p, q) = (p, rising_too (m ∷ ns) q)

all_too : (P : ℕ → Type 0) (ns : List ℕ) → std.All P ns → All P ns
all_too P [] h = tt
all_too P (n ∷ ns) h = (h 0 n (omega arith), all_too P ns (λ k d l. h (suc k) d (omega arith)))

variable_of : (types : List CellType) → is_integer types ≡ true → IsVariable types
variable_of [] e = cc
variable_of (Integer ty ∷ []) e = tt
variable_of (Pointer ∷ []) e = cc
variable_of (t ∷ u ∷ types) e = cc

all_more : (P Q : ℕ → Type 0) (ns : List ℕ) → ((n : ℕ) → P n → Q n) → All P ns → All Q ns
all_more P Q [] f h = tt
all_more P Q (n ∷ ns) f (p, q) = (f n p, all_more P Q ns f q)

at_map : {A B : Type 0} (f : A → B) (xs : List A) (i : ℕ) (b : B) → slice_get (map f xs) i ≡ Some b → (a : A) × (slice_get xs i ≡ Some a) × (f a ≡ b)
at_map f [] i b e = cc
at_map f (x ∷ xs) zero b e = (x, refl, some_same (f x) b e)
at_map f (x ∷ xs) (suc i) b e = at_map f xs i b e

module _ (layout : Layout) where
  -- what a static object's values are
  held : (n f : ℕ) (types : List CellType) (values : List StaticValue) (Rest : List StaticValue → Type 0) → HoldStart layout n f types values Rest →
      CellsFit layout types (map value_in (take (length types) values)) × StartAs true (map value_in (take (length types) values)) × Rest (drop (length types) values)
  held n f [] values Rest h = (tt, tt, h)
  held n f (t ∷ types) [] Rest h = absurd h
  held n f (t ∷ types) (s ∷ values) Rest (o, i, p, z, q) = let r = held n (suc f) types values Rest q in ((p, r.0), (starts_as s.value z, r.1), r.2) where
    starts_as : (v : CellValue) → IsStart v → StartsAs true v
    starts_as (Number x) h = tt
    starts_as Null h = refl
    starts_as Invalid h = absurd h
    starts_as (At o f) h = refl

  dead : (types : List CellType) → CellsFit layout types (map first_cell types) × StartAs false (map first_cell types)
  dead [] = (tt, tt)
  dead (Integer ty ∷ types) = let r = dead types in ((zero_value ty, r.0), (tt, r.1))
  dead (Pointer ∷ types) = let r = dead types in ((tt, r.0), (refl, r.1))

  -- an object as its code has it
  record IsGood (c : CodeObject) : Type 0 where
    some : 0 < length c.cells
    fits : CellsFit layout c.cells c.start
    start : StartAs c.is_static c.start
    hidden : c.hidden ≡ true → c.is_static ≡ false

  good_object : (ns : List Name) (o : ObjectInfo) (start : List CellValue) → 0 < length o.cells → CellsFit layout o.cells start → StartAs o.is_static start → IsGood (code_object ns o start)
  good_object ns o start h f s = record { some = h; fits = f; start = s; hidden = λ e. cc }

  objects_good : (ns : List Name) (n : ℕ) (os : List ObjectInfo) (values : List StaticValue) → HoldStatics layout n os values → HaveCells os → (i : ℕ) (c : CodeObject) → slice_get (code_objects ns values os) i ≡ Some c → IsGood c
  objects_good ns n [] values h k i c e = cc
  objects_good ns n (o ∷ os) values h (p, q) i c e = go o.is_static refl h i e (λ vs l j. objects_good ns (suc n) os vs l q j) where
    static_start : (b : Bool) → o.is_static ≡ b → (start : List CellValue) → StartAs b start → StartAs o.is_static start
    static_start b e start h = subst (λ x. StartAs x start) (sym e) h

    go : (b : Bool) → o.is_static ≡ b → HoldObject b layout n o.cells values (HoldStatics layout (suc n) os) → (i : ℕ) →
        slice_get (if b then code_object ns o (map value_in (take (length o.cells) values)) ∷ code_objects ns (drop (length o.cells) values) os else (code_object ns o (map first_cell o.cells) ∷ code_objects ns values os)) i ≡ Some c →
        ((vs : List StaticValue) → HoldStatics layout (suc n) os vs → (j : ℕ) (c : CodeObject) → slice_get (code_objects ns vs os) j ≡ Some c → IsGood c) → IsGood c
    go true s h zero e rest = let r = held n 0 o.cells values (HoldStatics layout (suc n) os) h in subst (λ x. IsGood x) (some_same _ c e) (good_object ns o _ p r.0 (static_start true s _ r.1))
    go true s h (suc i) e rest = rest (drop (length o.cells) values) (held n 0 o.cells values (HoldStatics layout (suc n) os) h).2 i c e
    go false s h zero e rest = let r = dead o.cells in subst (λ x. IsGood x) (some_same _ c e) (good_object ns o _ p r.0 (static_start false s _ r.1))
    go false s h (suc i) e rest = rest values h i c e

-- ---- lawful programs

module _ (p : ProgramTree) (lawful : IsLawful p) where
  abbrev cells : Layout
  cells = cells_of p

  abbrev pointed : ℕ → List CellType
  pointed n = pointed_cells (at_number [] n)

  abbrev listing : Listing
  listing = record { checks = p.checks; is_reached = lawful.main == lawful.main; overflow = lawful.overflow }

  small : (o : ℕ) → length (cells_of p o) ≤ 65536
  small o = few_cells p lawful o

  abbrev main_names : Names
  main_names = names cells pointed listing (length p.loops) small

  names_same : names_of (code p) ≡ main_names
  names_same = λ i. record { objects = (program_types p i).objects; pointed = (program_types p i).pointed; checks = length-map p.checks code_check i; loops = length-map p.loops code_loop i }

  objects_there : All (λ n. 0 < length (cells_of p n)) (lawful.main_function.parameters ++ declared_in lawful.main_function.body)
  objects_there =
      let main = lawful.functions lawful.main lawful.main_function lawful.has_main in
      subst (λ ns. All (λ n. 0 < length (cells_of p n)) ns) main.objects
      (numbers_all (λ n. 0 < length (cells_of p n)) (λ (o : ObjectInfo). o.function == lawful.main) 1 p.objects (λ i l. let e : suc i ≡ 1 + i = omega arith in subst (λ n. 0 < length (cells_of p n)) e (first_has p.objects i lawful.have_cells l)))

  loops_there : All (IsNumber (length p.loops)) (loops_in lawful.main_function.body)
  loops_there =
      let main = lawful.functions lawful.main lawful.main_function lawful.has_main in
      subst (λ ns. All (IsNumber (length p.loops)) ns) main.loops (numbers_all (IsNumber (length p.loops)) (λ (l : LoopInfo). l.function == lawful.main) 1 p.loops (λ i l. (omega arith, omega arith)))

  main_fits : FitsIn cells pointed listing (length p.loops) small 0 1 empty_scope (main_code cells 1 (Some lawful.main_function)).nodes (main_code cells 1 (Some lawful.main_function)).next
  main_fits =
      let f = lawful.main_function in
      let main = lawful.functions lawful.main f lawful.has_main in
      let d = declarations cells 1 f.parameters in
      let s = statement cells f.parameters d.next f.body in
      let known = all_behind empty_scope d.nodes in
      let last = join (deads f.parameters) (only End) in
      let has = all_left (λ n. 0 < length (cells_of p n)) f.parameters (declared_in f.body) objects_there in
      join_fits cells pointed listing (length p.loops) small 0 1 d.next s.next empty_scope d.nodes (join s.nodes last)
      (fits_of cells pointed listing (length p.loops) small 0 1 d.next empty_scope d.nodes (parameters_sound cells pointed listing (length p.loops) small f.parameters 1 has empty_scope))
      (join_fits cells pointed listing (length p.loops) small 0 d.next s.next s.next known s.nodes last
      (statement_fits cells pointed listing (length p.loops) small f.result f.body main.typed (all_right (λ n. 0 < length (cells_of p n)) f.parameters (declared_in f.body) objects_there) loops_there main.checks f.parameters has d.next known)
      (fits_of cells pointed listing (length p.loops) small 0 s.next s.next (all_behind known s.nodes) last (ends_sound cells pointed listing (length p.loops) small s.next (all_behind known s.nodes) f.parameters has)))

  code_fits : FitsIn cells pointed listing (length p.loops) small 0 1 empty_scope (code p).body (main_code cells 1 (main_among p.names p.functions)).next
  code_fits = subst (λ (f : Option FunctionTree). FitsIn cells pointed listing (length p.loops) small 0 1 empty_scope (main_code cells 1 f).nodes (main_code cells 1 f).next) (sym lawful.is_main) main_fits

  object_fits : (n : ℕ) (o : CodeObject) → at_number (code p).objects n ≡ Some o → IsObject (types_of (code p)).objects o
  object_fits zero o e = cc
  object_fits (suc i) o e =
      let good = objects_good cells p.names 1 p.objects p.static_values lawful.statics lawful.have_cells i o e in
      let same : o.cells ≡ cells_of p (suc i) = ap object_cells (sym e) ∙ (λ j. (program_types p j).objects (suc i)) in
      let most : length o.cells ≤ 65536 = subst (λ ts. length ts ≤ 65536) (sym same) (small (suc i)) in
      let some = good.some in
      record {
        sized = (omega arith, most);
        fits = subst (λ (t : Types). CellsFit t.objects o.cells o.start) (sym (program_types p)) good.fits;
        start = good.start;
        hidden = good.hidden;
      }

  loop_fits : (n : ℕ) (l : CodeLoop) → at_number (code p).loops n ≡ Some l → IsLoop (types_of (code p)).objects l
  loop_fits zero l e = cc
  loop_fits (suc i) l e = subst (λ (t : Types). IsLoop t.objects l) (sym (program_types p)) (go (at_map code_loop p.loops i l e)) where
    go : (info : LoopInfo) × (slice_get p.loops i ≡ Some info) × (code_loop info ≡ l) → IsLoop (cells_of p) l
    go (info, q, r) =
        let so = loop_objects p lawful (suc i) info q in
        subst (λ x. IsLoop (cells_of p) x) r (record {
          variables = all_more (λ n. is_integer (cells_of p n) ≡ true) (λ n. IsVariable (cells_of p n)) info.vars (λ n h. variable_of (cells_of p n) h) (all_too (λ n. is_integer (cells_of p n) ≡ true) info.vars so.variables);
          vars_rise = rising_too info.vars so.vars_rise;
          changed = all_too (λ n. 0 < length (cells_of p n)) info.mods so.changed;
          mods_rise = rising_too info.mods so.mods_rise;
        })

  no_pointed : (n : ℕ) (q : Pointed) → at_number (code p).pointed n ≡ Some q → IsSized q.cells
  no_pointed zero q e = cc
  no_pointed (suc i) q e = cc

  few_objects : length (code p).objects ≤ 131070
  few_objects = let a = code_length p.names p.static_values p.objects in let b = objects_few p.objects lawful.have_cells in let c = lawful.few_cells in omega arith

  pub code_well_formed : IsWellFormed (code p)
  code_well_formed = record {
    ends = main_ends cells (main_among p.names p.functions);
    jumps = code_fits.jumps 0 (omega arith);
    temps = from_counted 1 (main_code cells 1 (main_among p.names p.functions)).next (results (code p).body) code_fits.numbers;
    typed = subst (λ (n : Names). AreTyped n empty_scope (code p).body) (sym names_same) code_fits.typed;
    few_objects = few_objects;
    objects = object_fits;
    pointed = no_pointed;
    loops = loop_fits;
    never_stuck = λ f r mode tests choices turns. never_stuck p lawful f r mode tests choices turns;
  }
