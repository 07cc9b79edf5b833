-- What an update does doesn't depend on the ids.
use Rattle.std.proofs.Common.{◌≡◌, refl, sym, ap, ap₂, ◌∙◌, arith, ◌+◌, ℕ, Bool, true, false, not, ◌==◌, ◌&&◌, ◌||◌, cond, List, [], ◌∷◌, ◌++◌, map, length, Option, Some, None}
use Rattle.std.specs.Prelude.{is_none, is_some, nat_lt, nat_le}
use Rattle.std.specs.List.{filter}
use Rattle.std.specs.FinMap.Entries.{by_order}
use Rattle.std.specs.declared.cmp.Ordering.TheVariants.{Less, Equal, Greater}
use Rattle.ec_volume.specs.Entries.{Entries, entry, with_entry, without_entry, by_bytes, same_name}
use Rattle.ec_volume.specs.Image.{is_gone, is_file, is_dir, is_kind, entries_of, bytes_of, is_id, lacks, gives, is_bare, yields, resized, overwritten, with_bytes, with_entries, with_mode, with_stamp, with_owner, new_object}
use Rattle.ec_volume.specs.Update.{root, member, Above, ids_of, operands, has_operand, first_of, leads, has_room, fits, effect, distinct, is_way, is_within, is_sound}
use Rattle.ec_volume.specs.Volume.{image_next, image_after, fits_in_turn}
use Rattle.ec_volume.specs.declared.image.Kind.{Kind}
use Rattle.ec_volume.specs.declared.image.Kind.TheVariants as kind
use Rattle.ec_volume.specs.declared.image.Image.{Image}
use Rattle.ec_volume.specs.declared.image.Image.TheVariants.{Gone, File, Dir}
use Rattle.ec_volume.specs.declared.update.Update.{Update}
use Rattle.ec_volume.specs.declared.update.Update.TheVariants.{Make, Drop, Move, Put, Len, Mode, Stamp, Order, Shift, Owner}
use Rattle.ec_history.specs.OfLaws.Renaming.{IsRenaming, entries_by, image_by}
use Rattle.ec_history.specs.OfLaws.Renamed.{option_by, above_by, update_by}

module _ (r : ℕ → ℕ) (ren : IsRenaming r) where
  -- Entries.

  pub entry-by : (es : Entries) (n : List ℕ) → entry (entries_by r es) n ≡ option_by r (entry es n)
  entry-by [] n = refl
  entry-by (e ∷ es) n = elim (same_name n e.0) as (λ b. cond b (Some (r e.1)) (entry (entries_by r es) n) ≡ option_by r (cond b (Some e.1) (entry es n))) [ true ↦ refl | false ↦ entry-by es n ]

  pub length-by : (es : Entries) → length (entries_by r es) ≡ length es
  length-by [] = refl
  length-by (e ∷ es) = omega (arith, length-by es)

  put-by : (es : Entries) (n : List ℕ) (o : ℕ) → with_entry (entries_by r es) n (r o) ≡ entries_by r (with_entry es n o)
  put-by [] n o = refl
  put-by (e ∷ es) n o =
      elim (by_bytes n e.0) as (λ x. by_order x ((n, r o) ∷ entries_by r (e ∷ es)) ((e.0, r o) ∷ entries_by r es) ((e.0, r e.1) ∷ with_entry (entries_by r es) n (r o))
      ≡ entries_by r (by_order x ((n, o) ∷ e ∷ es) ((e.0, o) ∷ es) (e ∷ with_entry es n o))) [
        | Less ↦ refl
        | Equal ↦ refl
        | Greater ↦ ap (λ fs. (e.0, r e.1) ∷ fs) (put-by es n o)
      ]

  without-by : (es : Entries) (n : List ℕ) → without_entry (entries_by r es) n ≡ entries_by r (without_entry es n)
  without-by [] n = refl
  without-by (e ∷ es) n =
      elim (not (same_name n e.0)) as (λ b. cond b ((e.0, r e.1) ∷ without_entry (entries_by r es) n) (without_entry (entries_by r es) n) ≡ entries_by r (cond b (e ∷ without_entry es n) (without_entry es n))) [
        | true ↦ ap (λ fs. (e.0, r e.1) ∷ fs) (without-by es n)
        | false ↦ without-by es n
      ]

  -- Images.

  pub gone-by : (i : Image) → is_gone (image_by r i) ≡ is_gone i
  gone-by Gone = refl
  gone-by (File m s w bs) = refl
  gone-by (Dir m s w es) = refl

  pub dir-by : (i : Image) → is_dir (image_by r i) ≡ is_dir i
  dir-by Gone = refl
  dir-by (File m s w bs) = refl
  dir-by (Dir m s w es) = refl

  file-by : (i : Image) → is_file (image_by r i) ≡ is_file i
  file-by Gone = refl
  file-by (File m s w bs) = refl
  file-by (Dir m s w es) = refl

  pub bytes-by : (i : Image) → bytes_of (image_by r i) ≡ bytes_of i
  bytes-by Gone = refl
  bytes-by (File m s w bs) = refl
  bytes-by (Dir m s w es) = refl

  pub entries-by : (i : Image) → entries_of (image_by r i) ≡ entries_by r (entries_of i)
  entries-by Gone = refl
  entries-by (File m s w bs) = refl
  entries-by (Dir m s w es) = refl

  none-by : (o : Option ℕ) → is_none (option_by r o) ≡ is_none o
  none-by None = refl
  none-by (Some x) = refl

  pub some-by : (o : Option ℕ) → is_some (option_by r o) ≡ is_some o
  some-by None = refl
  some-by (Some x) = refl

  id-by : (p : ℕ) (o : Option ℕ) → is_id (r p) (option_by r o) ≡ is_id p o
  id-by p None = refl
  id-by p (Some x) = ren.apart p x

  pub count-by : (i : Image) → length (entries_of (image_by r i)) ≡ length (entries_of i)
  count-by i = ap length (entries-by i) ∙ length-by (entries_of i)

  look-by : (n : List ℕ) (i : Image) → entry (entries_of (image_by r i)) n ≡ option_by r (entry (entries_of i) n)
  look-by n i = ap (λ es. entry es n) (entries-by i) ∙ entry-by (entries_of i) n

  lacks-by : (n : List ℕ) (i : Image) → lacks n (image_by r i) ≡ lacks n i
  lacks-by n i = ap₂ (λ a b. a && b) (dir-by i) (ap is_none (look-by n i) ∙ none-by (entry (entries_of i) n))

  gives-by : (n : List ℕ) (o : ℕ) (i : Image) → gives n (r o) (image_by r i) ≡ gives n o i
  gives-by n o i = ap₂ (λ a b. a && b) (dir-by i) (ap (is_id (r o)) (look-by n i) ∙ id-by o (entry (entries_of i) n))

  kind-by : (k : Kind) (i : Image) → is_kind k (image_by r i) ≡ is_kind k i
  kind-by kind.File i = file-by i
  kind-by kind.Dir i = dir-by i

  bare-by : (k : Kind) (i : Image) → is_bare k (image_by r i) ≡ is_bare k i
  bare-by k i = ap₂ (λ a b. a && b) (kind-by k i) (ap (λ n. n == 0) (count-by i))

  yields-by : (n : List ℕ) (v : Option ℕ) (i : Image) → yields n (option_by r v) (image_by r i) ≡ yields n v i
  yields-by n None i = lacks-by n i
  yields-by n (Some o) i = gives-by n o i

  room-by : (v : Option ℕ) (i : Image) → has_room (option_by r v) (image_by r i) ≡ has_room v i
  room-by v i = λ x. some-by v x || nat_lt (count-by i x) 128

  -- Lists of ids.

  pub member-by : (o : ℕ) (os : List ℕ) → member (r o) (map r os) ≡ member o os
  member-by o [] = refl
  member-by o (p ∷ os) = ap₂ (λ a b. a || b) (ren.apart o p) (member-by o os)

  pub map-both : (os ps : List ℕ) → map r (os ++ ps) ≡ map r os ++ map r ps
  map-both [] ps = refl
  map-both (p ∷ os) ps = ap (λ qs. r p ∷ qs) (map-both os ps)

  count-map : (os : List ℕ) → length (map r os) ≡ length os
  count-map [] = refl
  count-map (o ∷ os) = omega (arith, count-map os)

  distinct-by : (os : List ℕ) → distinct (map r os) ≡ distinct os
  distinct-by [] = refl
  distinct-by (o ∷ os) = λ x. not (member-by o os x) && distinct-by os x

  others-by : (d : ℕ) (os : List ℕ) → filter (λ o. not (o == r d)) (map r os) ≡ map r (filter (λ o. not (o == d)) os)
  others-by d [] = refl
  others-by d (o ∷ os) =
      (λ x. cond (not (ren.apart o d x)) (r o ∷ others-by d os x) (others-by d os x))
      ∙ (elim (not (o == d)) as (λ b. cond b (r o ∷ map r (filter (λ p. not (p == d)) os)) (map r (filter (λ p. not (p == d)) os))
      ≡ map r (cond b (o ∷ filter (λ p. not (p == d)) os) (filter (λ p. not (p == d)) os))) [ true ↦ refl | false ↦ refl ])

  ids-by : (up : Above) → ids_of (above_by r up) ≡ map r (ids_of up)
  ids-by [] = refl
  ids-by (e ∷ up) = ap (λ os. r e.0 ∷ os) (ids-by up)

  above-by : (d : ℕ) (up : Above) → filter (λ o. not (o == r d)) (ids_of (above_by r up)) ≡ map r (filter (λ o. not (o == d)) (ids_of up))
  above-by d up = ap (filter (λ o. not (o == r d))) (ids-by up) ∙ others-by d (ids_of up)

  pub operands-by : (u : Update) → operands (update_by r u) ≡ map r (operands u)
  operands-by (Make d n o k) = refl
  operands-by (Drop d n o k) = refl
  operands-by (Move d m n o k None) = refl
  operands-by (Move d m n o k (Some v)) = refl
  operands-by (Put o at bytes inside) = refl
  operands-by (Len o len) = refl
  operands-by (Mode o m) = refl
  operands-by (Stamp o s) = refl
  operands-by (Order os) = refl
  operands-by (Shift d m e n o k None up) = ap (λ os. r d ∷ r e ∷ r o ∷ os) (above-by d up)
  operands-by (Shift d m e n o k (Some v) up) = ap (λ os. r d ∷ r e ∷ r o ∷ r v ∷ os) (above-by d up)
  operands-by (Owner o w) = refl

  pub operand-by : (o : ℕ) (u : Update) → has_operand (r o) (update_by r u) ≡ has_operand o u
  operand-by o u = ap (member (r o)) (operands-by u) ∙ member-by o (operands u)

  -- An update fits alike.

  first-by : (up : Above) (into : ℕ) → first_of (above_by r up) (r into) ≡ r (first_of up into)
  first-by [] into = refl
  first-by (e ∷ up) into = refl

  leads-by : (up : Above) (into o : ℕ) (i : Image) → leads (above_by r up) (r into) (r o) (image_by r i) ≡ leads up into o i
  leads-by [] into o i = refl
  leads-by (e ∷ up) into o i =
      λ x. (not (ren.apart o e.0 x) || (ap (λ f. gives e.1 f (image_by r i)) (first-by up into) ∙ gives-by e.1 (first_of up into) i) x) && leads-by up into o i x

  pub fits-by : (u : Update) (o : ℕ) (i : Image) → fits (update_by r u) (r o) (image_by r i) ≡ fits u o i
  fits-by (Make d n p k) o i = λ x. cond (ren.apart o d x) (lacks-by n i x && nat_lt (count-by i x) 128) (gone-by i x)
  fits-by (Drop d n p k) o i = λ x. cond (ren.apart o d x) (gives-by n p i x) (bare-by k i x)
  fits-by (Move d m n p k v) o i = λ x. cond (ren.apart o d x) (gives-by m p i x && yields-by n v i x) (cond (ren.apart o p x) (kind-by k i x) (bare-by k i x))
  fits-by (Put p at bytes inside) o i = λ x. file-by i x && (not inside || nat_le (at + length bytes) (length (bytes-by i x)))
  fits-by (Len p len) o i = file-by i
  fits-by (Mode p m) o i = ap not (gone-by i)
  fits-by (Stamp p s) o i = ap not (gone-by i)
  fits-by (Order os) o i = ap not (gone-by i)
  fits-by (Shift d m e n p k v up) o i = λ x.
      leads-by up e o i x
      && cond (ren.apart o d x) (gives-by m p i x) (cond (ren.apart o e x) (yields-by n v i x && room-by v i x) (cond (ren.apart o p x) (kind-by k i x) (not (id-by o v x) || bare-by k i x)))
  fits-by (Owner p w) o i = ap not (gone-by i)

  -- And does alike.

  with-by : (f g : Entries → Entries) → ((es : Entries) → f (entries_by r es) ≡ entries_by r (g es)) → (i : Image) → with_entries f (image_by r i) ≡ image_by r (with_entries g i)
  with-by f g h Gone = refl
  with-by f g h (File m s w bs) = refl
  with-by f g h (Dir m s w es) = ap (Dir m s w) (h es)

  with_bytes-by : (f : List ℕ → List ℕ) (i : Image) → with_bytes f (image_by r i) ≡ image_by r (with_bytes f i)
  with_bytes-by f Gone = refl
  with_bytes-by f (File m s w bs) = refl
  with_bytes-by f (Dir m s w es) = refl

  mode-by : (m : ℕ) (i : Image) → with_mode m (image_by r i) ≡ image_by r (with_mode m i)
  mode-by m Gone = refl
  mode-by m (File n s w bs) = refl
  mode-by m (Dir n s w es) = refl

  stamp-by : (s : ℕ) (i : Image) → with_stamp s (image_by r i) ≡ image_by r (with_stamp s i)
  stamp-by s Gone = refl
  stamp-by s (File m t w bs) = refl
  stamp-by s (Dir m t w es) = refl

  owner-by : (w : ℕ) (i : Image) → with_owner w (image_by r i) ≡ image_by r (with_owner w i)
  owner-by w Gone = refl
  owner-by w (File m t x bs) = refl
  owner-by w (Dir m t x es) = refl

  new-by : (k : Kind) → new_object k ≡ image_by r (new_object k)
  new-by kind.File = refl
  new-by kind.Dir = refl

  cond-by : (b : Bool) (i j : Image) → cond b (image_by r i) (image_by r j) ≡ image_by r (cond b i j)
  cond-by true i j = refl
  cond-by false i j = refl

  in-by : (n : List ℕ) (p : ℕ) (i : Image) → with_entries (λ es. with_entry es n (r p)) (image_by r i) ≡ image_by r (with_entries (λ es. with_entry es n p) i)
  in-by n p = with-by (λ es. with_entry es n (r p)) (λ es. with_entry es n p) (λ es. put-by es n p)

  out-by : (n : List ℕ) (i : Image) → with_entries (λ es. without_entry es n) (image_by r i) ≡ image_by r (with_entries (λ es. without_entry es n) i)
  out-by n = with-by (λ es. without_entry es n) (λ es. without_entry es n) (λ es. without-by es n)

  moved-by : (m n : List ℕ) (p : ℕ) (i : Image) → with_entries (λ es. with_entry (without_entry es m) n (r p)) (image_by r i) ≡ image_by r (with_entries (λ es. with_entry (without_entry es m) n p) i)
  moved-by m n p =
      with-by (λ es. with_entry (without_entry es m) n (r p)) (λ es. with_entry (without_entry es m) n p)
      (λ es. ap (λ fs. with_entry fs n (r p)) (without-by es m) ∙ put-by (without_entry es m) n p)

  -- the cases of one test
  test-by : (a b : Bool) (x y : Image) {i j : Image} → a ≡ b → i ≡ image_by r x → j ≡ image_by r y → cond a i j ≡ image_by r (cond b x y)
  test-by a b x y e f g = (λ t. cond (e t) (f t) (g t)) ∙ cond-by b x y

  pub effect-by : (u : Update) (o : ℕ) (i : Image) → effect (update_by r u) (r o) (image_by r i) ≡ image_by r (effect u o i)
  effect-by (Make d n p k) o i = test-by (r o == r d) (o == d) (with_entries (λ es. with_entry es n p) i) (new_object k) (ren.apart o d) (in-by n p i) (new-by k)
  effect-by (Drop d n p k) o i = test-by (r o == r d) (o == d) (with_entries (λ es. without_entry es n) i) Gone (ren.apart o d) (out-by n i) refl
  effect-by (Move d m n p k v) o i =
      test-by (r o == r d) (o == d) (with_entries (λ es. with_entry (without_entry es m) n p) i) (cond (o == p) i Gone) (ren.apart o d) (moved-by m n p i)
      (test-by (r o == r p) (o == p) i Gone (ren.apart o p) refl refl)
  effect-by (Put p at bytes inside) o i = with_bytes-by (overwritten at bytes) i
  effect-by (Len p len) o i = with_bytes-by (resized len) i
  effect-by (Mode p m) o i = mode-by m i
  effect-by (Stamp p s) o i = stamp-by s i
  effect-by (Order os) o i = refl
  effect-by (Shift d m e n p k v up) o i =
      test-by (r o == r d) (o == d) (with_entries (λ es. without_entry es m) i) (cond (o == e) (with_entries (λ es. with_entry es n p) i) (cond (is_id o v) Gone i)) (ren.apart o d) (out-by m i)
      (test-by (r o == r e) (o == e) (with_entries (λ es. with_entry es n p) i) (cond (is_id o v) Gone i) (ren.apart o e) (in-by n p i)
      (test-by (is_id (r o) (option_by r v)) (is_id o v) Gone i (id-by o v) refl refl))
  effect-by (Owner p w) o i = owner-by w i

  -- Lists of updates at one object.

  next-by : (o : ℕ) (i : Image) (u : Update) → image_next (r o) (image_by r i) (update_by r u) ≡ image_by r (image_next o i u)
  next-by o i u = test-by (has_operand (r o) (update_by r u)) (has_operand o u) (effect u o i) i (operand-by o u) (effect-by u o i) refl

  pub after-at : (o : ℕ) (i : Image) (us : List Update) → image_after (r o) (image_by r i) (map (update_by r) us) ≡ image_by r (image_after o i us)
  after-at o i [] = refl
  after-at o i (u ∷ us) = ap (λ j. image_after (r o) j (map (update_by r) us)) (next-by o i u) ∙ after-at o (image_next o i u) us

  pub fits-in-turn-by : (o : ℕ) (i : Image) (us : List Update) → fits_in_turn (r o) (image_by r i) (map (update_by r) us) ≡ fits_in_turn o i us
  fits-in-turn-by o i [] = refl
  fits-in-turn-by o i (u ∷ us) =
      (λ x. (not (operand-by o u x) || fits-by u o i x) && fits_in_turn (r o) (next-by o i u x) (map (update_by r) us))
      ∙ ap (λ b. (not (has_operand o u) || fits u o i) && b) (fits-in-turn-by o (image_next o i u) us)

  -- It is sound alike.

  root-by : (o : ℕ) → (r o == root) ≡ (o == root)
  root-by o = ap (λ t. r o == t) (sym ren.root_stays) ∙ ren.apart o root

  above-length : (up : Above) → length (above_by r up) ≡ length up
  above-length [] = refl
  above-length (e ∷ up) = omega (arith, above-length up)

  way-by : (k : Kind) (into : ℕ) (up : Above) → is_way k (r into) (above_by r up) ≡ is_way k into up
  way-by kind.File into up = λ x. above-length up x == 0
  way-by kind.Dir into up = λ x.
      cond (root-by into x) (above-length up x == 0)
      (nat_le 1 (above-length up x) && nat_le (above-length up x) 15 && (ap (λ f. f == root) (first-by up into) ∙ root-by (first_of up into)) x)

  within-by : (u : Update) → is_within (update_by r u) ≡ is_within u
  within-by (Make d n o k) = refl
  within-by (Drop d n o k) = refl
  within-by (Move d m n o k v) = refl
  within-by (Put o at bytes inside) = refl
  within-by (Len o len) = refl
  within-by (Mode o m) = refl
  within-by (Stamp o s) = refl
  within-by (Order os) = λ x. nat_le 1 (count-map os x) && nat_le (count-map os x) 8
  within-by (Shift d m e n o k v up) = λ x. (ap distinct (ids-by up) ∙ distinct-by (ids_of up)) x && way-by k e up x
  within-by (Owner o w) = refl

  pub sound-by : (u : Update) → is_sound (update_by r u) ≡ is_sound u
  sound-by u = λ x. (ap distinct (operands-by u) ∙ distinct-by (operands u)) x && within-by u x
