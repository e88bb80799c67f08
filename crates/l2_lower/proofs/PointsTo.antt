-- The least closed sets of the code of a program are, on its objects, the program's points-to sets.
use Rattle.std.proofs.Common.{◌≡◌, ℕ, zero, suc, ◌+◌, Bool, true, false, List, [], ◌∷◌, length, map, take, drop, Option, Some, None, refl, sym, ap, subst, ◌∙◌, arith}
use Rattle.std.specs.Prelude.{slice_get, if◌then◌else◌}
use Rattle.l2_syntax.specs.declared.token.Name.{Name}
use Rattle.l2_runs.specs.declared.cells.CellType.{CellType}
use Rattle.l2_runs.specs.declared.cells.CellType.TheVariants.{Integer, Pointer}
use Rattle.l2_runs.specs.declared.cells.CellValue.{CellValue}
use Rattle.l2_runs.specs.declared.cells.CellValue.TheVariants.{Invalid}
use Rattle.l2_runs.specs.declared.member.Member.{Member}
use Rattle.l2_runs.specs.declared.member.Member.TheVariants as member
use Rattle.l2_runs.specs.Numbers.{at_number}
use Rattle.l2_runs.specs.Members.{targets, Within}
use Rattle.l2_runs.specs.Fits.{Layout}
use Rattle.l2_program.specs.declared.program.ObjectInfo.{ObjectInfo}
use Rattle.l2_program.specs.declared.program.StaticValue.{StaticValue}
use Rattle.l2_program.specs.Programs.{ProgramTree, FunctionTree}
use Rattle.l2_meaning.specs.Execution.{cells_of, known_cells, main_among, value_in, first_cell}
use Rattle.l2_meaning.specs.Scopes.{is_static_object, statics_of}
use Rattle.l2_meaning.specs.Lawful.{IsLawful, HoldStart, HoldObject, HoldStatics, AreNotStatic}
use Rattle.l2_meaning.specs.Pointing.{Sets, first_member, ValuesAreTakenIn, StatementIsTakenIn, AreClosed, ArePointsTo}
use Rattle.l2_meaning.specs.Pointing as pointing
use Rattle.l2_code.specs.declared.code.CodeObject.{CodeObject}
use Rattle.l2_code.specs.declared.action.Action.TheVariants.{End}
use Rattle.l2_code.specs.Trees.{join}
use Rattle.l2_code.specs.Sets as code
use Rattle.l2_code.specs.Sets.{Family, IsInside, AreHeld, IsClosedObject, IsClosed}
use Rattle.l2_lower.specs.Emitting.{only}
use Rattle.l2_lower.specs.Statements.{declaration, deads, statement}
use Rattle.l2_lower.specs.Code.{code_object, code_objects, declarations, body_code, main_code}
use Rattle.l2_lower.specs.Code as lowered
use Rattle.l2_lower.proofs.SetsClosed.{closed_join, statement_taken}
use Rattle.l2_lower.proofs.SetsLeast.{nowhere, nodes_sets, fam, Closing, join_closing, none_closing, ends_closing, declaration_closing, StartsInvalid, statement_closing}

some_same : {A : Type 0} (a b : A) → Some a ≡ Some b → a ≡ b
some_same a b e = cc

-- ---- objects

same_pointers : (types : List CellType) → code.has_pointer types ≡ pointing.has_pointer types
same_pointers [] = refl
same_pointers (Integer ty ∷ types) = same_pointers types
same_pointers (Pointer ∷ types) = refl

same_first : (b : Bool) → code.unwritten b ≡ first_member b
same_first true = refl
same_first false = refl

-- an object of the program is one of its code
code_at : (ns : List Name) (values : List StaticValue) (os : List ObjectInfo) (i : ℕ) (o : ObjectInfo) → slice_get os i ≡ Some o → (start : List CellValue) × (slice_get (code_objects ns values os) i ≡ Some (code_object ns o start))
code_at ns values [] i o e = cc
code_at ns values (x ∷ os) i o e = go x.is_static i e (λ vs j d. code_at ns vs os j o d) where
  go : (b : Bool) (i : ℕ) → slice_get (x ∷ os) i ≡ Some o → ((vs : List StaticValue) (j : ℕ) → slice_get os j ≡ Some o → (start : List CellValue) × (slice_get (code_objects ns vs os) j ≡ Some (code_object ns o start))) →
      (start : List CellValue) × (slice_get (if b then code_object ns x (map value_in (take (length x.cells) values)) ∷ code_objects ns (drop (length x.cells) values) os else (code_object ns x (map first_cell x.cells) ∷ code_objects ns values os)) i ≡ Some (code_object ns o start))
  go true zero e rest = (map value_in (take (length x.cells) values), ap (λ y. Some (code_object ns y (map value_in (take (length x.cells) values)))) (some_same x o e))
  go true (suc i) e rest = rest (drop (length x.cells) values) i e
  go false zero e rest = (map first_cell x.cells, ap (λ y. Some (code_object ns y (map first_cell x.cells))) (some_same x o e))
  go false (suc i) e rest = rest values i e

module _ (cells : Layout) (sets : Sets) where
  -- ---- from code to programs

  start_taken : (n f : ℕ) (types : List CellType) (values : List StaticValue) (Rest : List StaticValue → Type 0) → HoldStart cells n f types values Rest → AreHeld (sets n) (map value_in (take (length types) values)) → (Rest (drop (length types) values) → ValuesAreTakenIn sets (drop (length types) values)) → ValuesAreTakenIn sets values
  start_taken n f [] values Rest h k next = next h
  start_taken n f (t ∷ types) [] Rest h k next = absurd h
  start_taken n f (t ∷ types) (s ∷ values) Rest (o, i, p, z, q) (k, l) next = (subst (λ x. Within (targets s.value) (sets x)) (sym o) k, start_taken n (suc f) types values Rest q l next)

  values_taken : (ns : List Name) (n : ℕ) (os : List ObjectInfo) (values : List StaticValue) → HoldStatics cells n os values → ((i : ℕ) (c : CodeObject) → slice_get (code_objects ns values os) i ≡ Some c → AreHeld (sets (n + i)) c.start) → ValuesAreTakenIn sets values
  values_taken ns n [] values h held = subst (λ vs. ValuesAreTakenIn sets vs) (sym h) tt
  values_taken ns n (o ∷ os) values h held = go o.is_static h held (λ vs l k. values_taken ns (suc n) os vs l k) where
    next : (i : ℕ) → n + suc i ≡ suc n + i
    next i = omega arith

    here : n + 0 ≡ n
    here = omega arith

    go : (b : Bool) → HoldObject b cells n o.cells values (HoldStatics cells (suc n) os) →
        ((i : ℕ) (c : CodeObject) → slice_get (if b then code_object ns o (map value_in (take (length o.cells) values)) ∷ code_objects ns (drop (length o.cells) values) os else (code_object ns o (map first_cell o.cells) ∷ code_objects ns values os)) i ≡ Some c → AreHeld (sets (n + i)) c.start) →
        ((vs : List StaticValue) → HoldStatics cells (suc n) os vs → ((i : ℕ) (c : CodeObject) → slice_get (code_objects ns vs os) i ≡ Some c → AreHeld (sets (suc n + i)) c.start) → ValuesAreTakenIn sets vs) → ValuesAreTakenIn sets values
    go true h held rest =
        start_taken n 0 o.cells values (HoldStatics cells (suc n) os) h (subst (λ k. AreHeld (sets k) (map value_in (take (length o.cells) values))) here (held 0 (code_object ns o (map value_in (take (length o.cells) values))) refl))
        (λ l. rest (drop (length o.cells) values) l (λ i c e. subst (λ k. AreHeld (sets k) c.start) (next i) (held (suc i) c e)))
    go false h held rest = rest values h (λ i c e. subst (λ k. AreHeld (sets k) c.start) (next i) (held (suc i) c e))

  -- ---- from programs to code

  held_start : (n f : ℕ) (types : List CellType) (values : List StaticValue) (Rest : List StaticValue → Type 0) → HoldStart cells n f types values Rest → ValuesAreTakenIn sets values → AreHeld (sets n) (map value_in (take (length types) values)) × Rest (drop (length types) values) × ValuesAreTakenIn sets (drop (length types) values)
  held_start n f [] values Rest h k = (tt, h, k)
  held_start n f (t ∷ types) [] Rest h k = absurd h
  held_start n f (t ∷ types) (s ∷ values) Rest (o, i, p, z, q) (k, l) = let r = held_start n (suc f) types values Rest q l in ((subst (λ x. Within (targets s.value) (sets x)) o k, r.0), r.1, r.2)

  invalid_within : (set : Member → Bool) → set member.Invalid ≡ true → Within (targets Invalid) set
  invalid_within set h member.Null e = cc
  invalid_within set h member.Invalid e = h
  invalid_within set h (member.Object o) e = cc

  held_dead : (types : List CellType) (set : Member → Bool) → (pointing.has_pointer types ≡ true → set member.Invalid ≡ true) → AreHeld set (map first_cell types)
  held_dead [] set h = tt
  held_dead (Integer ty ∷ types) set h = (λ m e. cc, held_dead types set h)
  held_dead (Pointer ∷ types) set h = (invalid_within set (h refl), held_dead types set (λ e. h refl))

  closed_object : (ns : List Name) (o : ObjectInfo) (start : List CellValue) (set : Member → Bool) → (pointing.has_pointer o.cells ≡ true → set (first_member o.is_static) ≡ true) → AreHeld set start → IsClosedObject set (code_object ns o start)
  closed_object ns o start set h k = record {
    first = λ e. subst (λ m. set m ≡ true) (sym (same_first o.is_static)) (h (sym (same_pointers o.cells) ∙ e));
    start = k;
  }

  objects_closed : (ns : List Name) (n : ℕ) (os : List ObjectInfo) (values : List StaticValue) → HoldStatics cells n os values → ValuesAreTakenIn sets values → ((i : ℕ) (o : ObjectInfo) → slice_get os i ≡ Some o → pointing.has_pointer o.cells ≡ true → sets (n + i) (first_member o.is_static) ≡ true) →
      (i : ℕ) (c : CodeObject) → slice_get (code_objects ns values os) i ≡ Some c → IsClosedObject (sets (n + i)) c
  objects_closed ns n [] values h t first i c e = cc
  objects_closed ns n (o ∷ os) values h t first i c e = go o.is_static refl h i e (λ vs l k. objects_closed ns (suc n) os vs l k (λ j x d p. subst (λ y. sets y (first_member x.is_static) ≡ true) (next j) (first (suc j) x d p))) where
    next : (i : ℕ) → n + suc i ≡ suc n + i
    next i = omega arith

    here : n + 0 ≡ n
    here = omega arith

    go : (b : Bool) → o.is_static ≡ b → HoldObject b cells n o.cells values (HoldStatics cells (suc n) os) → (i : ℕ) →
        slice_get (if b then code_object ns o (map value_in (take (length o.cells) values)) ∷ code_objects ns (drop (length o.cells) values) os else (code_object ns o (map first_cell o.cells) ∷ code_objects ns values os)) i ≡ Some c →
        ((vs : List StaticValue) → HoldStatics cells (suc n) os vs → ValuesAreTakenIn sets vs → (j : ℕ) (c : CodeObject) → slice_get (code_objects ns vs os) j ≡ Some c → IsClosedObject (sets (suc n + j)) c) → IsClosedObject (sets (n + i)) c
    go true s h zero e rest = subst (λ x. IsClosedObject (sets (n + 0)) x) (some_same _ c e) (closed_object ns o _ (sets (n + 0)) (first 0 o refl) (subst (λ k. AreHeld (sets k) (map value_in (take (length o.cells) values))) (sym here) (held_start n 0 o.cells values (HoldStatics cells (suc n) os) h t).0))
    go true s h (suc i) e rest = let r = held_start n 0 o.cells values (HoldStatics cells (suc n) os) h t in subst (λ k. IsClosedObject (sets k) c) (sym (next i)) (rest (drop (length o.cells) values) r.1 r.2 i c e)
    go false s h zero e rest =
        subst (λ x. IsClosedObject (sets (n + 0)) x) (some_same _ c e)
        (closed_object ns o _ (sets (n + 0)) (first 0 o refl) (held_dead o.cells (sets (n + 0)) (λ p. subst (λ b. sets (n + 0) (first_member b) ≡ true) s (first 0 o refl p))))
    go false s h (suc i) e rest = subst (λ k. IsClosedObject (sets k) c) (sym (next i)) (rest values h t i c e)

-- ---- lawful programs

module _ (p : ProgramTree) (lawful : IsLawful p) where
  abbrev main : FunctionTree
  main = lawful.main_function

  main_is : (g : FunctionTree) → main_among p.names p.functions ≡ Some g → main ≡ g
  main_is g e = some_same main g (sym lawful.is_main ∙ e)

  -- sets closed over the code are closed over the program
  pub closed_program : (f : Family) → IsClosed (lowered.code p) f → AreClosed p f.object
  closed_program f h = record { first = first; statics = statics; body = body } where
    first_at : (i : ℕ) (o : ObjectInfo) → (start : List CellValue) × (slice_get (code_objects p.names p.static_values p.objects) i ≡ Some (code_object p.names o start)) → pointing.has_pointer o.cells ≡ true → f.object (suc i) (first_member o.is_static) ≡ true
    first_at i o (start, e) q = subst (λ m. f.object (suc i) m ≡ true) (same_first o.is_static) ((h.objects (suc i) (code_object p.names o start) e).first (same_pointers o.cells ∙ q))

    first : (n : ℕ) (o : ObjectInfo) → at_number p.objects n ≡ Some o → pointing.has_pointer o.cells ≡ true → f.object n (first_member o.is_static) ≡ true
    first zero o e q = cc
    first (suc i) o e q = first_at i o (code_at p.names p.static_values p.objects i o e) q

    statics : ValuesAreTakenIn f.object p.static_values
    statics = values_taken (cells_of p) f.object p.names 1 p.objects p.static_values lawful.statics (λ i c e. let s : suc i ≡ 1 + i = omega arith in subst (λ k. AreHeld (f.object k) c.start) s (h.objects (suc i) c e).start)

    in_main : StatementIsTakenIn f.object main.body
    in_main =
        let cells = cells_of p in
        let d = declarations cells 1 main.parameters in
        let s = statement cells main.parameters d.next main.body in
        let is = lawful.functions lawful.main main lawful.has_main in
        let all = subst (λ (g : Option FunctionTree). code.AreClosed f (main_code cells 1 g).nodes) lawful.is_main h.actions in
        let q = closed_join f d.nodes (body_code cells d.next main).nodes all in
        let r = closed_join f s.nodes (join (deads main.parameters) (only End)) q.1 in
        statement_taken f cells main.result main.body is.typed main.parameters d.next r.0

    body : (g : FunctionTree) → main_among p.names p.functions ≡ Some g → StatementIsTakenIn f.object g.body
    body g e = subst (λ (x : FunctionTree). StatementIsTakenIn f.object x.body) (main_is g e) in_main

  module _ (sets : Sets) (h : AreClosed p sets) where
    starts_at : (o : Option ObjectInfo) (n : ℕ) → at_number p.objects n ≡ o → is_static_object o ≡ false → pointing.has_pointer (known_cells o) ≡ true → sets n member.Invalid ≡ true
    starts_at None n e s q = cc
    starts_at (Some o) n e s q = subst (λ b. sets n (first_member b) ≡ true) s (h.first n o e q)

    starts : (n : ℕ) → statics_of p n ≡ false → StartsInvalid sets (cells_of p) n
    starts n s q = starts_at (at_number p.objects n) n refl s q

    parameters_closing : (os : List ℕ) (n : ℕ) (acc : _) → AreNotStatic (statics_of p) os → Closing sets n acc (declarations (cells_of p) n os).nodes (declarations (cells_of p) n os).next
    parameters_closing [] n acc q = none_closing sets n acc
    parameters_closing (o ∷ os) n acc (s, q) =
        let d = declaration (cells_of p) n o in
        let r = declarations (cells_of p) d.next os in
        join_closing sets n d.next r.next acc d.nodes r.nodes (declaration_closing sets (cells_of p) n o acc (starts o s)) (parameters_closing os d.next (nodes_sets sets d.nodes acc) q)

    main_closing : Closing sets 1 (λ n. nowhere) (main_code (cells_of p) 1 (Some main)).nodes (main_code (cells_of p) 1 (Some main)).next
    main_closing =
        let cells = cells_of p in
        let acc = λ (n : ℕ). nowhere in
        let d = declarations cells 1 main.parameters in
        let s = statement cells main.parameters d.next main.body in
        let is = lawful.functions lawful.main main lawful.has_main in
        let later = nodes_sets sets d.nodes acc in
        join_closing sets 1 d.next s.next acc d.nodes (body_code cells d.next main).nodes (parameters_closing main.parameters 1 acc is.parameters)
        (join_closing sets d.next s.next s.next later s.nodes (join (deads main.parameters) (only End))
        (statement_closing sets cells (statics_of p) starts main.result main.body is.typed (h.body main lawful.is_main) main.parameters is.scoped main.parameters d.next later)
        (ends_closing sets cells s.next (nodes_sets sets s.nodes later) main.parameters))

    abbrev temps : ℕ → Member → Bool
    temps = nodes_sets sets (main_code (cells_of p) 1 (Some main)).nodes (λ n. nowhere)

    -- sets closed over the program are closed over the code, with these sets of temporaries
    program_closed : IsClosed (lowered.code p) (fam sets temps)
    program_closed = record { actions = actions; objects = objects } where
      actions : code.AreClosed (fam sets temps) (lowered.code p).body
      actions = subst (λ (g : Option FunctionTree). code.AreClosed (fam sets temps) (main_code (cells_of p) 1 g).nodes) (sym lawful.is_main) (main_closing.closes temps (λ i q. refl))

      objects : (n : ℕ) (c : CodeObject) → at_number (lowered.code p).objects n ≡ Some c → IsClosedObject (sets n) c
      objects zero c e = cc
      objects (suc i) c e =
          let s : suc i ≡ 1 + i = omega arith in
          subst (λ k. IsClosedObject (sets k) c) (sym s)
          (objects_closed (cells_of p) sets p.names 1 p.objects p.static_values lawful.statics h.statics (λ j o d q. let z : suc j ≡ 1 + j = omega arith in subst (λ k. sets k (first_member o.is_static) ≡ true) z (h.first (suc j) o d q)) i c e)

  -- the least closed sets of the code are the program's
  pub points_to : (f : Family) → IsClosed (lowered.code p) f → ((g : Family) → IsClosed (lowered.code p) g → IsInside f g) → ArePointsTo p f.object
  points_to f h least = record {
    closed = closed_program f h;
    least = λ other k n. (least (fam other (temps other k)) (program_closed other k)).objects n;
  }
