-- Pieces stand one behind another.
use Rattle.std.proofs.Common.{◌≡◌, ◌≤◌, ◌<◌, ◌+◌, ◌-◌, ◌==◌, ◌&&◌, not, ℕ, zero, suc, Bool, true, false, cond, Option, None, Some, List, [], ◌∷◌, length, take, drop, refl, sym, ap, subst, ◌∙◌, arith}
use Rattle.std.proofs.lemmas.List.{length-take, length-drop}
use Rattle.std.proofs.lemmas.List.Sums.{prefix_len-le-length}
use Rattle.std.specs.List.{prefix_len}
use Rattle.std.specs.Str.{bytes_eq}
use Rattle.l2_syntax.specs.declared.place.Place.{Place}
use Rattle.l2_syntax.specs.declared.token.Mark.{Mark}
use Rattle.l2_syntax.specs.declared.refusal.Rule.TheVariants as rule
use Rattle.l2_pieces.specs.declared.piece.PieceKind.{PieceKind}
use Rattle.l2_pieces.specs.declared.piece.PieceKind.TheVariants as kind
use Rattle.l2_pieces.specs.declared.piece.Front.{Front}
use Rattle.l2_pieces.specs.declared.piece.Piece.{Piece}
use Rattle.l2_pieces.specs.Bytes.{is_space, is_letter, is_word_byte, is_number_byte, is_in_line}
use Rattle.l2_pieces.specs.Punctuators.{Spelling, mark_in, single, double, triple}
use Rattle.l2_pieces.specs.Fronts.{front_of, closed_comment, is_splice, unspliced, comment, closed_string, string, is_plain_character, is_escaped_character, character, punctuator, longest_punctuator, slash, begins_number, begins_prefixed, front}
use Rattle.l2_pieces.specs.Pieces.{behind, behind_all, first_place, is_fault, piece_of, parts}
use Rattle.l2_pieces.specs.Laws.{Covers, end, fault, piece, line_ends, last_line, CutLaw, PlaceLaw}

-- a front that is no fault has at least one byte, and no more than the text
record Sound (f : Front) (n : ℕ) : Type 0 where
  pub some : is_fault f.kind ≡ false → 1 ≤ f.length
  pub within : is_fault f.kind ≡ false → f.length ≤ n

sound : (k : PieceKind) (m n : ℕ) → 1 ≤ m → m ≤ n → Sound (front_of k m) n
sound k m n a b = record { some = λ e. a; within = λ e. b }

never : {A : Type 0} → true ≡ false → A
never e = absurd (no e)
  where
    no : true ≡ false → ⊥
    no h = cc

faulty : (r : _) (m n : ℕ) → Sound (front_of (kind.Fault r) m) n
faulty r m n = record { some = λ e. never e; within = λ e. never e }

either : (b : Bool) (f g : Front) (n : ℕ) → (b ≡ true → Sound f n) → (b ≡ false → Sound g n) → Sound (cond b f g) n
either true f g n p q = p refl
either false f g n p q = q refl

-- Punctuators

same_length : (xs ys : List ℕ) → bytes_eq xs ys ≡ true → length xs ≡ length ys
same_length [] [] e = refl
same_length [] (y ∷ ys) e = never (sym e)
same_length (x ∷ xs) [] e = never (sym e)
same_length (x ∷ xs) (y ∷ ys) e = ap (λ n. suc n) (same_length xs ys (second (x == y) (bytes_eq xs ys) e))
  where
    second : (a b : Bool) → (a && b) ≡ true → b ≡ true
    second true b h = h
    second false b h = never (sym h)

AllLong : ℕ → List Spelling → Type 0
AllLong n [] = Unit {0}
AllLong n (s ∷ table) = (length s.bytes ≡ n) × AllLong n table

spelt_length : (n : ℕ) (table : List Spelling) (w : List ℕ) (m : Mark) → AllLong n table → mark_in table w ≡ Some m → length w ≡ n
unfolding AllLong
spelt_length n [] w m a e = absurd (no e)
  where
    no : None ≡ Some m → ⊥
    no h = cc
spelt_length n (s ∷ table) w m a e = go (bytes_eq s.bytes w) refl e (spelt_length n table w m a.1)
  where
    go : (b : Bool) → bytes_eq s.bytes w ≡ b → cond b (Some s.mark) (mark_in table w) ≡ Some m → (mark_in table w ≡ Some m → length w ≡ n) → length w ≡ n
    go true t h r = sym (same_length s.bytes w t) ∙ a.0
    go false t h r = r h

three : AllLong 3 triple
unfolding AllLong
three = (refl, (refl, (refl, tt)))

two : AllLong 2 double
unfolding AllLong
two = (refl, (refl, (refl, (refl, (refl, (refl, (refl, (refl, (refl, (refl, (refl, (refl, (refl, (refl, (refl, (refl, (refl, (refl, (refl, (refl, tt))))))))))))))))))))

one : AllLong 1 single
unfolding AllLong
one = (refl, (refl, (refl, (refl, (refl, (refl, (refl, (refl, (refl, (refl, (refl, (refl, (refl, (refl, (refl, (refl, (refl, (refl, (refl, (refl, (refl, (refl, (refl, (refl, (refl, tt)))))))))))))))))))))))))

long_enough : (n : ℕ) (text : List ℕ) → length (take n text) ≡ n → n ≤ length text
long_enough n text e = let m = length-take n text in omega (arith, e, m)

sound_mark : (o : Option Mark) (k n : ℕ) (other : Front) → ((m : Mark) → o ≡ Some m → k ≤ n) → 1 ≤ k → Sound other n → Sound (punctuator o k other) n
sound_mark None k n other f h s = s
sound_mark (Some m) k n other f h s = sound (kind.Mark m) k n h (f m refl)

sound_longest : (text : List ℕ) → Sound (longest_punctuator text) (length text)
sound_longest text =
    sound_mark (mark_in triple (take 3 text)) 3 (length text) (punctuator (mark_in double (take 2 text)) 2 (punctuator (mark_in single (take 1 text)) 1 (front_of (kind.Fault rule.Byte) 1))) (λ m e. long_enough 3 text (spelt_length 3 triple (take 3 text) m three e)) (omega arith)
    (sound_mark (mark_in double (take 2 text)) 2 (length text) (punctuator (mark_in single (take 1 text)) 1 (front_of (kind.Fault rule.Byte) 1)) (λ m e. long_enough 2 text (spelt_length 2 double (take 2 text) m two e)) (omega arith)
    (sound_mark (mark_in single (take 1 text)) 1 (length text) (front_of (kind.Fault rule.Byte) 1) (λ m e. long_enough 1 text (spelt_length 1 single (take 1 text) m one e)) (omega arith) (faulty rule.Byte 1 (length text))))

-- Comments and strings

record Fits (k m n : ℕ) : Type 0 where
  pub from : k < m
  pub to : m ≤ n

fits_one : (k n m a : ℕ) → k + 1 ≡ m → a + 1 ≤ n → Fits k m (k + n)
fits_one k n m a e h = record { from = omega arith; to = omega arith }

fits_more : (k m n : ℕ) → Fits (k + 1) m (k + 1 + n) → Fits k m (k + suc n)
fits_more k m n f = let a = f.from in let b = f.to in record { from = omega arith; to = omega arith }

not_some : {A : Type 0} {m : ℕ} → None ≡ Some m → A
not_some e = absurd (no e)
  where
    no : {m : ℕ} → None ≡ Some m → ⊥
    no h = cc

some_is : (a m : ℕ) → Some a ≡ Some m → a ≡ m
some_is a m e = cc

comment_fits : (star : Bool) (k : ℕ) (text : List ℕ) (m : ℕ) → closed_comment star k text ≡ Some m → Fits k m (k + length text)
comment_fits star k [] m e = not_some e
comment_fits star k (b ∷ text) m e = go (star && b == 47) e (λ h. fits_more k m (length text) (comment_fits (b == 42) (k + 1) text m h))
  where
    go : (c : Bool) → cond c (Some (k + 1)) (closed_comment (b == 42) (k + 1) text) ≡ Some m → (closed_comment (b == 42) (k + 1) text ≡ Some m → Fits k m (k + suc (length text))) → Fits k m (k + suc (length text))
    go true h r = fits_one k (suc (length text)) m 0 (some_is (k + 1) m h) (omega arith)
    go false h r = r h

string_fits : (escaped : Bool) (k : ℕ) (text : List ℕ) (m : ℕ) → closed_string escaped k text ≡ Some m → Fits k m (k + length text)
string_fits escaped k [] m e = not_some e
string_fits escaped k (b ∷ text) m e = go (b == 10) (not escaped && b == 34) e (λ h. fits_more k m (length text) (string_fits (not escaped && b == 92) (k + 1) text m h))
  where
    go : (c d : Bool) → cond c None (cond d (Some (k + 1)) (closed_string (not escaped && b == 92) (k + 1) text)) ≡ Some m → (closed_string (not escaped && b == 92) (k + 1) text ≡ Some m → Fits k m (k + suc (length text))) → Fits k m (k + suc (length text))
    go true d h r = not_some h
    go false true h r = fits_one k (suc (length text)) m 0 (some_is (k + 1) m h) (omega arith)
    go false false h r = r h

unspliced_le : (n : ℕ) (text : List ℕ) → unspliced n text ≤ n
unspliced_le zero text = omega arith
unspliced_le (suc n) [] = omega arith
unspliced_le (suc n) (b ∷ text) = go (is_splice (b ∷ text)) (unspliced_le n text)
  where
    go : (c : Bool) → unspliced n text ≤ n → cond c 0 (1 + unspliced n text) ≤ suc n
    go true h = omega arith
    go false h = omega arith

-- a comment begins with a slash, which is no splice
comment_some : (n : ℕ) (text : List ℕ) → 1 ≤ n → 1 ≤ unspliced n (47 ∷ text)
comment_some zero text h = absurd (omega arith)
comment_some (suc n) text h = omega arith

sound_comment : (o : Option ℕ) (text : List ℕ) → ((m : ℕ) → o ≡ Some m → (1 ≤ m) × (m ≤ 1 + length text)) → Sound (comment o (47 ∷ text)) (1 + length text)
sound_comment None text f = faulty rule.Comment 1 (1 + length text)
sound_comment (Some m) text f =
    let p = f m refl in let p0 = p.0 in let p1 = p.1 in let u = unspliced_le m (47 ∷ text) in
    sound kind.Blank (unspliced m (47 ∷ text)) (1 + length text) (comment_some m text p0) (omega arith)

sound_string : (o : Option ℕ) (n : ℕ) → ((m : ℕ) → o ≡ Some m → (1 ≤ m) × (m ≤ n)) → Sound (string o) n
sound_string None n f = faulty rule.BadString 1 n
sound_string (Some m) n f = let p = f m refl in sound kind.Text m n p.0 p.1

plain_long : (text : List ℕ) → is_plain_character text ≡ true → 3 ≤ 1 + length text
plain_long [] e = never (sym e)
plain_long (c ∷ []) e = never (sym e)
plain_long (c ∷ q ∷ text) e = omega arith

escaped_long : (text : List ℕ) → is_escaped_character text ≡ true → 4 ≤ 1 + length text
escaped_long [] e = never (sym e)
escaped_long (b ∷ []) e = never (sym e)
escaped_long (b ∷ c ∷ []) e = never (sym e)
escaped_long (b ∷ c ∷ q ∷ text) e = omega arith

sound_character : (text : List ℕ) → Sound (character text) (1 + length text)
sound_character text =
    either (is_plain_character text) (front_of kind.Character 3) (cond (is_escaped_character text) (front_of kind.Character 4) (front_of (kind.Fault rule.Literal) 1)) (1 + length text)
    (λ e. sound kind.Character 3 (1 + length text) (omega arith) (plain_long text e))
    (λ e. either (is_escaped_character text) (front_of kind.Character 4) (front_of (kind.Fault rule.Literal) 1) (1 + length text) (λ h. sound kind.Character 4 (1 + length text) (omega arith) (escaped_long text h)) (λ h. faulty rule.Literal 1 (1 + length text)))

closed_long : (m n : ℕ) → Fits 2 m (2 + n) → (1 ≤ m) × (m ≤ 1 + suc n)
closed_long m n f = let a = f.from in let b = f.to in (omega arith, omega arith)

line_long : (n m k : ℕ) → Some (1 + n) ≡ Some m → n ≤ k → (1 ≤ m) × (m ≤ 1 + k)
line_long n m k e h = let p = some_is (1 + n) m e in (omega arith, omega arith)

sound_slash : (text : List ℕ) → Sound (slash text) (1 + length text)
sound_slash [] = sound_longest (47 ∷ [])
sound_slash (b ∷ text) =
    either (b == 47) (comment (Some (1 + prefix_len is_in_line (b ∷ text))) (47 ∷ b ∷ text)) (cond (b == 42) (comment (closed_comment false 2 text) (47 ∷ b ∷ text)) (longest_punctuator (47 ∷ b ∷ text))) (1 + length (b ∷ text))
    (λ e. sound_comment (Some (1 + prefix_len is_in_line (b ∷ text))) (b ∷ text) (λ m h. line_long (prefix_len is_in_line (b ∷ text)) m (length (b ∷ text)) h (prefix_len-le-length is_in_line (b ∷ text))))
    (λ e. either (b == 42) (comment (closed_comment false 2 text) (47 ∷ b ∷ text)) (longest_punctuator (47 ∷ b ∷ text)) (1 + length (b ∷ text))
    (λ h. sound_comment (closed_comment false 2 text) (b ∷ text) (λ m g. closed_long m (length text) (comment_fits false 2 text m g)))
    (λ h. widen (longest_punctuator (47 ∷ b ∷ text)) (sound_longest (47 ∷ b ∷ text))))
  where
    widen : (f : Front) → Sound f (length (47 ∷ b ∷ text)) → Sound f (1 + length (b ∷ text))
    widen f s = record { some = s.some; within = λ e. let h = s.within e in omega arith }

string_long : (m n : ℕ) → Fits 1 m (1 + n) → (1 ≤ m) × (m ≤ 1 + n)
string_long m n f = let a = f.from in let b = f.to in (omega arith, omega arith)

sound_run : (k : PieceKind) (p : ℕ → Bool) (text : List ℕ) → Sound (front_of k (1 + prefix_len p text)) (1 + length text)
sound_run k p text = let h = prefix_len-le-length p text in sound k (1 + prefix_len p text) (1 + length text) (omega arith) (omega arith)

sound_front : (b : ℕ) (text : List ℕ) → Sound (front (b ∷ text)) (1 + length text)
sound_front b text =
    either (is_space b) (front_of kind.Blank (1 + prefix_len is_space text)) f1 n (λ e. sound_run kind.Blank is_space text)
    (λ e. either (begins_prefixed b text) (front_of (kind.Fault rule.Literal) 1) f0 n (λ q. faulty rule.Literal 1 n)
    (λ q. either (is_letter b) (front_of kind.Word (1 + prefix_len is_word_byte text)) f2 n (λ h. sound_run kind.Word is_word_byte text)
    (λ h. either (begins_number b text) (front_of kind.Number (1 + prefix_len is_number_byte text)) f3 n (λ g. sound_run kind.Number is_number_byte text)
    (λ g. either (b == 47) (slash text) f4 n (λ e4. sound_slash text)
    (λ e4. either (b == 39) (character text) f5 n (λ e5. sound_character text)
    (λ e5. either (b == 34) (string (closed_string false 1 text)) (longest_punctuator (b ∷ text)) n (λ e6. sound_string (closed_string false 1 text) n (λ m q. string_long m (length text) (string_fits false 1 text m q)))
    (λ e6. widen (longest_punctuator (b ∷ text)) (sound_longest (b ∷ text)))))))))
  where
    n : ℕ
    n = 1 + length text

    f5 : Front
    f5 = cond (b == 34) (string (closed_string false 1 text)) (longest_punctuator (b ∷ text))

    f4 : Front
    f4 = cond (b == 39) (character text) f5

    f3 : Front
    f3 = cond (b == 47) (slash text) f4

    f2 : Front
    f2 = cond (begins_number b text) (front_of kind.Number (1 + prefix_len is_number_byte text)) f3

    f0 : Front
    f0 = cond (is_letter b) (front_of kind.Word (1 + prefix_len is_word_byte text)) f2

    f1 : Front
    f1 = cond (begins_prefixed b text) (front_of (kind.Fault rule.Literal) 1) f0

    widen : (f : Front) → Sound f (length (b ∷ text)) → Sound f (1 + length text)
    widen f s = record { some = s.some; within = λ e. let h = s.within e in omega arith }

-- Pieces

skipped : (n : ℕ) (p : Place) (text : List ℕ) → parts p n text ≡ parts (behind_all (take n text) p) 0 (drop n text)
skipped zero p [] = refl
skipped zero p (b ∷ text) = refl
skipped (suc n) p [] = refl
skipped (suc n) p (b ∷ text) = skipped n (behind b p) text

short : (k n : ℕ) (text : List ℕ) → length text ≤ n → length (drop k text) ≤ n
short k n text h = let e = length-drop k text in omega (arith, e, h)

-- one piece and those behind it
covered_on : (b : ℕ) (text : List ℕ) (p : Place) (f : Front) (c : Bool) → is_fault f.kind ≡ c → Sound f (1 + length text)
    → Covers (behind_all (take (f.length - 1) text) (behind b p)) (drop (f.length - 1) text) (parts (behind b p) (f.length - 1) text) → Covers p (b ∷ text) (piece_of f p ∷ cond c [] (parts (behind b p) (f.length - 1) text))
covered_on b text p f true e s r = fault (b ∷ text) (piece_of f p) e
covered_on b text p f false e s r =
    let h = s.some e in let w = s.within e in
    let more = parts (behind b p) (f.length - 1) text in
    let k : f.length ≡ suc (f.length - 1) = omega arith in
    let P : ℕ → Type 0 = λ n. Covers (behind_all (take n (b ∷ text)) p) (drop n (b ∷ text)) more in
    piece (b ∷ text) (piece_of f p) more h (omega arith) (subst P (sym k) r)

covered : (most : ℕ) (text : List ℕ) → length text ≤ most → (p : Place) → Covers p text (parts p 0 text)
covered most [] h p = end p
covered zero (b ∷ text) h p = absurd (omega arith)
covered (suc most) (b ∷ text) h p =
    let n = (front (b ∷ text)).length - 1 in
    let q = behind_all (take n text) (behind b p) in
    let P : List Piece → Type 0 = λ xs. Covers q (drop n text) xs in
    covered_on b text p (front (b ∷ text)) (is_fault (front (b ∷ text)).kind) refl (sound_front b text) (subst P (sym (skipped n (behind b p) text)) (covered most (drop n text) (short n most text (omega arith)) q))

pub cut_law : CutLaw
cut_law text = (parts first_place 0 text, covered (length text) text (omega arith) first_place, refl)

-- Places

place_at : ℕ → ℕ → ℕ → Place
place_at o l c = record { offset = o; line = l; col = c }

same_place : {a b c d e f : ℕ} → a ≡ b → c ≡ d → e ≡ f → place_at a c e ≡ place_at b d f
same_place {b = b} {c = c} {d = d} {e = e} p q r = ap (λ x. place_at x c e) p ∙ ap (λ x. place_at b x e) q ∙ ap (λ x. place_at b d x) r

counted : (text : List ℕ) (o l c : ℕ) → behind_all text (place_at o l (1 + c)) ≡ place_at (o + length text) (l + line_ends text) (1 + last_line text c)
unfolding place_at
counted [] o l c = same_place (omega arith) (omega arith) refl
counted (b ∷ text) o l c = go (b == 10) (λ m d. counted text (o + 1) m d)
  where
    go : (t : Bool) → ((m d : ℕ) → behind_all text (place_at (o + 1) m (1 + d)) ≡ place_at (o + 1 + length text) (m + line_ends text) (1 + last_line text d))
        → behind_all text (place_at (o + 1) (cond t (l + 1) l) (cond t 1 (1 + c + 1))) ≡ place_at (o + length (b ∷ text)) (l + (cond t 1 0 + line_ends text)) (1 + last_line text (cond t 0 (c + 1)))
    go true r = r (l + 1) 0 ∙ same_place (omega arith) (omega arith) refl
    go false r = ap (λ (x : ℕ). behind_all text (place_at (o + 1) l x)) (omega arith) ∙ r l (c + 1) ∙ same_place (omega arith) (omega arith) refl

pub place_law : PlaceLaw
unfolding place_at
place_law text = counted text 0 1 0 ∙ same_place (omega arith) refl refl
