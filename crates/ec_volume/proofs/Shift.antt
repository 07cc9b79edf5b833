-- A move between two directories, one operand after the other.
use Rattle.std.proofs.Common.{◌≡◌, ℕ, List, ◌∷◌, ◌++◌, Option, None, Some, Bool, true, false, refl, sym, ap, ◌∙◌}
use Rattle.std.specs.Prelude.{◌==◌, ◌&&◌, ◌||◌, if◌then◌else◌, T, not}
use Rattle.std.specs.List.{filter}
use Rattle.std.proofs.lemmas.Bool.Decides.{Decides-eqb}
use Rattle.ec_volume.specs.Entries.{without_entry, with_entry}
use Rattle.ec_volume.specs.Image.{is_gone, is_dir, is_id, gives, yields, with_entries}
use Rattle.ec_volume.specs.Update.{Above, operands, first_unfit, fits, effect, leads, has_room, has_operand, member, distinct, listed, ids_of, is_within, is_sound}
use Rattle.ec_volume.specs.Volume.{Images, image_next}
use Rattle.ec_volume.specs.Carry.{instead, cleared}
use Rattle.ec_volume.specs.declared.image.Kind.{Kind}
use Rattle.ec_volume.specs.declared.image.Image.{Image}
use Rattle.ec_volume.specs.declared.image.Image.TheVariants.{Gone, File, Dir}
use Rattle.ec_volume.specs.declared.update.Update.TheVariants.{Shift}
use Rattle.ec_volume.proofs.Held.{live-with_entries}
use Rattle.ec_base.proofs.Bools.{is-true, first-of, right-tested}
use Rattle.ec_volume.proofs.Distinct.{not_first}

fits_first : (b : Bool) (o : ℕ) (r : Option ℕ) → (if b then r else Some o) ≡ None → b ≡ true
fits_first true o r e = refl
fits_first false o r e = cc

fits_rest : (b : Bool) (o : ℕ) (r : Option ℕ) → (if b then r else Some o) ≡ None → r ≡ None
fits_rest true o r e = e
fits_rest false o r e = cc

dir_live : (i : Image) → is_dir i ≡ true → is_gone i ≡ false
dir_live Gone e = absurd (let t : false ≡ true = e in cc)
dir_live (File m s w bs) e = refl
dir_live (Dir m s w es) e = refl

yields_live : (n : List ℕ) (victim : Option ℕ) (i : Image) → yields n victim i ≡ true → is_gone i ≡ false
yields_live n None i e = dir_live i (first-of _ _ e)
yields_live n (Some o) i e = dir_live i (first-of _ _ e)

into_live : (a b : Bool) (n to : List ℕ) (obj : ℕ) (victim : Option ℕ) (i : Image) (r z : Bool) → b ≡ true → (if a then gives n obj i else if b then (yields to victim i && r) else z) ≡ true → is_gone i ≡ false
into_live true b n to obj victim i r z p e = dir_live i (first-of _ _ e)
into_live false true n to obj victim i r z p e = yields_live to victim i (first-of _ _ e)
into_live false false n to obj victim i r z p e = cc

same : (n : ℕ) → (n == n) ≡ true
same n = (Decides-eqb n n).1 refl

stays : (a b : Bool) (f g : List (List ℕ × ℕ) → List (List ℕ × ℕ)) (i z : Image) → b ≡ true → is_gone i ≡ false → is_gone (if a then with_entries f i else if b then with_entries g i else z) ≡ false
stays true b f g i z p h = live-with_entries f i h
stays false true f g i z p h = live-with_entries g i h
stays false false f g i z p h = cc

cleared_by : (victim : Option ℕ) (w : Images) (o : ℕ) → cleared victim w o ≡ (if is_id o victim then Gone else w o)
cleared_by None w o = refl
cleared_by (Some t) w o = refl

-- at dir, at into, at the victim or elsewhere; there is one of them only, and each one is an operand
settled : (at_dir at_into gone operand meet back here : Bool) (f g : Image → Image) (i d n z : Image)
    → meet ≡ false → back ≡ false → here ≡ true
    → (at_dir ≡ true → (d ≡ i) × (gone ≡ false) × (operand ≡ true)) → (at_into ≡ true → (n ≡ i) × (gone ≡ false) × (operand ≡ true)) → (gone ≡ true → operand ≡ true)
    → (if gone then Gone else if at_dir then f (if meet then (if back then f n else if here then g n else z) else d) else if at_into then (if back then f n else if here then g n else z) else i)
    ≡ (if operand then (if at_dir then f i else if at_into then g i else if gone then Gone else i) else i)
settled true b c m meet back here f g i d n z p q r x y t = rw (p, (x refl).1, (x refl).2) (ap f (x refl).0)
settled false true c m meet back here f g i d n z p q r x y t = rw (q, r, (y refl).1, (y refl).2) (ap g (y refl).0)
settled false false true m meet back here f g i d n z p q r x y t = rw (t refl)
settled false false false true meet back here f g i d n z p q r x y t = refl
settled false false false false meet back here f g i d n z p q r x y t = refl

member_tail : (o x : ℕ) (xs : List ℕ) → member o xs ≡ true → member o (x ∷ xs) ≡ true
member_tail o x xs e = elim (o == x) as (λ b. (b || member o xs) ≡ true) [ true ↦ refl | false ↦ e ]

member_here : (o x : ℕ) (xs : List ℕ) → (o == x) ≡ true → member o (x ∷ xs) ≡ true
member_here o x xs e = ap (λ b. b || member o xs) e

listed_member : (o : ℕ) (victim : Option ℕ) (xs : List ℕ) → is_id o victim ≡ true → member o (listed victim ++ xs) ≡ true
listed_member o None xs e = cc
listed_member o (Some t) xs e = member_here o t xs e

-- what is in a list differs from what isn't
apart : (o p : ℕ) (xs : List ℕ) → (o == p) ≡ true → member p xs ≡ false → member o xs ≡ false
apart o p xs e h = ap (λ q. member q xs) ((Decides-eqb o p).0 e) ∙ h

unless : (b m : Bool) → (b ≡ true → m ≡ true) → m ≡ false → b ≡ false
unless true m h e = absurd (let t : m ≡ true = h refl in cc)
unless false m h e = refl

tail : (x : ℕ) (xs : List ℕ) → distinct (x ∷ xs) ≡ true → distinct xs ≡ true
tail x xs h = right-tested (not (member x xs)) (distinct xs) h

head_differs : (o x : ℕ) (xs : List ℕ) → member o (x ∷ xs) ≡ false → (o == x) ≡ false
head_differs o x xs h = unless (o == x) (member o (x ∷ xs)) (member_here o x xs) h

later_lacks : (o x : ℕ) (xs : List ℕ) → member o (x ∷ xs) ≡ false → member o xs ≡ false
later_lacks o x xs h = unless (member o xs) (member o (x ∷ xs)) (member_tail o x xs) h

cleared_same : (victim : Option ℕ) (v w : Images) (o : ℕ) → ((p : ℕ) → v p ≡ w p) → cleared victim v o ≡ cleared victim w o
cleared_same None v w o h = h o
cleared_same (Some t) v w o h = ap (λ i. if o == t then Gone else i) (h o)

instead_same : (k : ℕ) (i j : Image) (v w : Images) (o : ℕ) → i ≡ j → v o ≡ w o → instead k i v o ≡ instead k j w o
instead_same k i j v w o e h = ap (λ x. if o == k then x else v o) e ∙ ap (λ x. if o == k then j else x) h

module _ (dir : ℕ) (from : List ℕ) (into : ℕ) (to : List ℕ) (obj : ℕ) (k : Kind) (victim : Option ℕ) (up : Above) (v : Images) where
  pub shift_live : first_unfit (Shift dir from into to obj k victim up) v (operands (Shift dir from into to obj k victim up)) ≡ None → is_gone (v into) ≡ false
  shift_live e =
      let later = fits_rest (fits (Shift dir from into to obj k victim up) dir (v dir)) dir _ e in
      let here = fits_first (fits (Shift dir from into to obj k victim up) into (v into)) into _ later in
      into_live (into == dir) (into == into) from to obj victim (v into) (has_room victim (v into)) _ (same into) (right-tested (leads up into into (v into)) _ here)

  pub shift_stays : first_unfit (Shift dir from into to obj k victim up) v (operands (Shift dir from into to obj k victim up)) ≡ None → is_gone (effect (Shift dir from into to obj k victim up) into (v into)) ≡ false
  shift_stays e = stays (into == dir) (into == into) (λ es. without_entry es from) (λ es. with_entry es to obj) (v into) _ (same into) (shift_live e)

  shifted : distinct (operands (Shift dir from into to obj k victim up)) ≡ true → (o : ℕ)
      → cleared victim (instead dir (with_entries (λ es. without_entry es from) (instead into (effect (Shift dir from into to obj k victim up) into (v into)) v dir)) (instead into (effect (Shift dir from into to obj k victim up) into (v into)) v)) o
      ≡ image_next o (v o) (Shift dir from into to obj k victim up)
  shifted h o =
      let rest = filter (λ p. not (p == dir)) (ids_of up) in
      let four = listed victim ++ rest in
      let three = obj ∷ four in
      let two = into ∷ three in
      let E = effect (Shift dir from into to obj k victim up) into (v into) in
      let dir_alone : member dir two ≡ false = not_first dir two h in
      let into_alone : member into three ≡ false = not_first into three (tail dir two h) in
      let meet : (dir == into) ≡ false = head_differs dir into three dir_alone in
      let back : (into == dir) ≡ false = unless (into == dir) (dir == into) (λ t. ap (λ n. dir == n) ((Decides-eqb into dir).0 t) ∙ same dir) meet in
      cleared_by victim (instead dir (with_entries (λ es. without_entry es from) (instead into E v dir)) (instead into E v)) o
      ∙ settled (o == dir) (o == into) (is_id o victim) (has_operand o (Shift dir from into to obj k victim up)) (dir == into) (into == dir) (into == into)
      (with_entries (λ es. without_entry es from)) (with_entries (λ es. with_entry es to obj)) (v o) (v dir) (v into) (if is_id into victim then Gone else v into)
      meet back (same into)
      (λ t. (
        ap v (sym ((Decides-eqb o dir).0 t)),
        unless (is_id o victim) (member o four) (listed_member o victim rest) (apart o dir four t (later_lacks dir obj four (later_lacks dir into three dir_alone))),
        member_here o dir two t,
      ))
      (λ t. (
        ap v (sym ((Decides-eqb o into).0 t)),
        unless (is_id o victim) (member o four) (listed_member o victim rest) (apart o into four t (later_lacks into obj four into_alone)),
        member_tail o dir two (member_here o into three t),
      ))
      (λ t. member_tail o dir two (member_tail o into three (member_tail o obj four (listed_member o victim rest t))))

  -- the old directory, which isn't the new one, loses its entry
  left_behind : effect (Shift dir from into to obj k victim up) dir (v dir) ≡ with_entries (λ es. without_entry es from) (v dir)
  left_behind = rw (same dir) refl

  dir_apart : distinct (operands (Shift dir from into to obj k victim up)) ≡ true → (dir == into) ≡ false
  dir_apart h =
      let three = obj ∷ listed victim ++ filter (λ p. not (p == dir)) (ids_of up) in
      head_differs dir into three (not_first dir (into ∷ three) h)

  -- the entry of the new directory, then that of the old one, then the victim
  pub carried : T (is_sound (Shift dir from into to obj k victim up)) → (v1 v2 v3 : Images)
      → ((p : ℕ) → v1 p ≡ instead into (effect (Shift dir from into to obj k victim up) into (v into)) v p)
      → ((p : ℕ) → v2 p ≡ instead dir (effect (Shift dir from into to obj k victim up) dir (v dir)) v1 p)
      → ((p : ℕ) → v3 p ≡ cleared victim v2 p) → (o : ℕ) → v3 o ≡ image_next o (v o) (Shift dir from into to obj k victim up)
  carried sound v1 v2 v3 e f g o =
      let D = effect (Shift dir from into to obj k victim up) dir (v dir) in
      let E = effect (Shift dir from into to obj k victim up) into (v into) in
      let F = with_entries (λ es. without_entry es from) in
      let h = first-of (distinct (operands (Shift dir from into to obj k victim up))) (is_within (Shift dir from into to obj k victim up)) (is-true (is_sound (Shift dir from into to obj k victim up)) sound) in
      let kept : instead into E v dir ≡ v dir = ap (λ b. if b then E else v dir) (dir_apart h) in
      g o
      ∙ cleared_same victim v2 (instead dir (F (instead into E v dir)) (instead into E v)) o
      (λ p. f p ∙ instead_same dir D (F (instead into E v dir)) v1 (instead into E v) p (left_behind ∙ ap F (sym kept)) (e p))
      ∙ shifted h o
