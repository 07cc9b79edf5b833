-- What a volume's list shows after a change, and that it stays one.
use Rattle.std.proofs.Common.{◌≡◌, ℕ, suc, ◌+◌, ◌-◌, ◌≤◌, ◌<◌, arith, length, List, [], ◌∷◌, Option, None, Some, Bool, true, false, cond, refl, sym, ap, subst, ◌∙◌}
use Rattle.std.specs.Prelude.{◌==◌, if◌then◌else◌, T, unwrap_or, is_some, Result, Ok, Err, is_err, OnOk, OnErr, OnSome, MatchOption, slice_get}
use Rattle.std.specs.declared.cmp.Ordering.TheVariants.{Less, Equal, Greater}
use Rattle.std.specs.List.{list_all}
use Rattle.std.specs.Ordering.{nat_cmp, eq_by_cmp, is_lt}
use Rattle.std.specs.Cmp.{nat_cmp_total, eq_by_cmp_equiv, unsigned_ties}
use Rattle.std.specs.FinMap.{find, put, is_sorted}
use Rattle.std.specs.FinMap.Entries.{by_order, below_all, where_key, is_sorted-put, is_sorted-where_key, find-put}
use Rattle.ec_base.specs.Sorted.{without}
use Rattle.ec_volume.specs.Entries.{Entries}
use Rattle.ec_volume.specs.Image.{is_gone, with_entries}
use Rattle.ec_volume.specs.Volume.{images}
use Rattle.ec_volume.specs.Held.{IsVolume, is_held}
use Rattle.ec_volume.specs.Carry.{instead, cleared}
use Rattle.ec_volume.specs.declared.image.Image.{Image}
use Rattle.ec_volume.specs.declared.image.Image.TheVariants.{Gone, File, Dir}
use Rattle.ec_base.specs.SortedLaws.{first, second, both, find-without, without-put_new}
use Rattle.ec_base.proofs.Bools.{is-true, lower-tested}

pick : (b : Bool) (i r : Image) (f : Option Image) → r ≡ unwrap_or f Gone → (if b then i else r) ≡ unwrap_or (cond b (Some i) f) Gone
pick true i r f e = refl
pick false i r f e = e

pick_gone : (b : Bool) (r : Image) (f : Option Image) → r ≡ unwrap_or f Gone → (if b then Gone else r) ≡ unwrap_or (cond b None f) Gone
pick_gone true r f e = refl
pick_gone false r f e = e

pub images_find : (es : List (ℕ × Image)) (p : ℕ) → images es p ≡ unwrap_or (find nat_cmp p es) Gone
images_find [] p = refl
images_find (e ∷ es) p =
    pick (p == e.0) e.1 (images es p) (find nat_cmp p es) (images_find es p)
    ∙ ap (λ b. unwrap_or (cond b (Some e.1) (find nat_cmp p es)) Gone) (unsigned_ties p e.0)

pub images-put : (k : ℕ) (i : Image) (es : List (ℕ × Image)) (p : ℕ) → images (put nat_cmp k i es) p ≡ instead k i (images es) p
images-put k i es p =
    images_find (put nat_cmp k i es) p
    ∙ ap (λ f. unwrap_or f Gone) (find-put nat_cmp nat_cmp_total p k i es)
    ∙ ap (λ b. unwrap_or (cond b (Some i) (find nat_cmp p es)) Gone) (sym (unsigned_ties p k))
    ∙ sym (pick (p == k) i (images es p) (find nat_cmp p es) (images_find es p))

pub images-without : (k : ℕ) (es : List (ℕ × Image)) (p : ℕ) → images (without nat_cmp k es) p ≡ cleared (Some k) (images es) p
images-without k es p =
    images_find (without nat_cmp k es) p
    ∙ ap (λ f. unwrap_or f Gone) (find-without nat_cmp nat_cmp_total p k es)
    ∙ ap (λ b. unwrap_or (cond b None (find nat_cmp p es)) Gone) ((eq_by_cmp_equiv nat_cmp_total).symm k p ∙ sym (unsigned_ties p k))
    ∙ sym (pick_gone (p == k) (images es p) (find nat_cmp p es) (images_find es p))

-- Images that a volume holds.

module _ (test : (ℕ × Image) → Bool) where
  pub all-put : (k : ℕ) (i : Image) (es : List (ℕ × Image)) → ((o : ℕ) → T (test (o, i))) → T (list_all test es) → T (list_all test (put nat_cmp k i es))
  all-put k i [] h a = both _ _ (h k) tt
  all-put k i (e ∷ es) h a =
      elim (nat_cmp k e.0) as (λ r. T (list_all test (by_order r ((k, i) ∷ e ∷ es) ((e.0, i) ∷ es) (e ∷ put nat_cmp k i es)))) [
        | Less ↦ both _ _ (h k) a
        | Equal ↦ both _ _ (h e.0) (second _ _ a)
        | Greater ↦ both _ _ (first _ _ a) (all-put k i es h (second _ _ a))
      ]

  pub all-where_key : (p : ℕ → Bool) (es : List (ℕ × Image)) → T (list_all test es) → T (list_all test (where_key nat_cmp p es))
  all-where_key p [] a = a
  all-where_key p (e ∷ es) a =
      let rest = all-where_key p es (second _ _ a) in
      elim (p e.0) as (λ b. T (list_all test (cond b (e ∷ where_key nat_cmp p es) (where_key nat_cmp p es)))) [
        | true ↦ both _ _ (first _ _ a) rest
        | false ↦ rest
      ]

pub IsVolume-put : (k : ℕ) (i : Image) (es : List (ℕ × Image)) → is_held i ≡ true → IsVolume es → IsVolume (put nat_cmp k i es)
IsVolume-put k i es h v = record {
  sorted = is_sorted-put nat_cmp nat_cmp_total k i es v.sorted;
  held = all-put (λ e. is_held e.1) k i es (λ o. subst T (sym h) tt) v.held;
}

pub IsVolume-without : (k : ℕ) (es : List (ℕ × Image)) → IsVolume es → IsVolume (without nat_cmp k es)
IsVolume-without k es v = record {
  sorted = is_sorted-where_key nat_cmp _ es v.sorted;
  held = all-where_key (λ e. is_held e.1) _ es v.held;
}

found_held : (es : List (ℕ × Image)) (k : ℕ) (i : Image) → T (list_all (λ e. is_held e.1) es) → find nat_cmp k es ≡ Some i → is_held i ≡ true
found_held [] k i a f = cc
found_held (e ∷ es) k i a f =
    elim (eq_by_cmp nat_cmp k e.0) as (λ b. cond b (Some e.1) (find nat_cmp k es) ≡ Some i → is_held i ≡ true) [
      | true ↦ λ g. let same : e.1 ≡ i = cc in subst (λ x. is_held x ≡ true) same (is-true _ (first _ _ a))
      | false ↦ λ g. found_held es k i (second _ _ a) g
    ] f

pub held_live : (i : Image) → is_held i ≡ true → is_gone i ≡ false
held_live Gone h = absurd (let t : false ≡ true = h in cc)
held_live (File m s w bs) h = refl
held_live (Dir m s w es) h = refl

-- A live object is found, and one that is Gone isn't.

found_cases : (f : Option Image) → is_gone (unwrap_or f Gone) ≡ false → f ≡ Some (unwrap_or f Gone)
found_cases None e = absurd (let t : true ≡ false = e in cc)
found_cases (Some i) e = refl

pub found : (es : List (ℕ × Image)) (k : ℕ) → is_gone (images es k) ≡ false → find nat_cmp k es ≡ Some (images es k)
found es k h = found_cases (find nat_cmp k es) (ap is_gone (sym (images_find es k)) ∙ h) ∙ ap Some (sym (images_find es k))

pub not_found : (f : Option Image) (i : Image) → f ≡ None → f ≡ Some i → ⊥
not_found None i e h = cc
not_found (Some j) i e h = cc

absent_cases : (f : Option Image) → is_gone (unwrap_or f Gone) ≡ true → ((i : Image) → f ≡ Some i → is_gone i ≡ false) → f ≡ None
absent_cases None e h = refl
absent_cases (Some i) e h = absurd (let t : is_gone i ≡ false = h i refl in cc)

pub absent : (es : List (ℕ × Image)) (k : ℕ) → IsVolume es → is_gone (images es k) ≡ true → find nat_cmp k es ≡ None
absent es k v h = absent_cases (find nat_cmp k es) (ap is_gone (sym (images_find es k)) ∙ h) (λ i f. held_live i (found_held es k i v.held f))

pub found_live : (es : List (ℕ × Image)) (k : ℕ) (i : Image) → IsVolume es → find nat_cmp k es ≡ Some i → is_gone (images es k) ≡ false
found_live es k i v f = ap is_gone (images_find es k ∙ ap (λ r. unwrap_or r Gone) f) ∙ held_live i (found_held es k i v.held f)

pub image_held : (es : List (ℕ × Image)) (k : ℕ) → IsVolume es → is_gone (images es k) ≡ false → is_held (images es k) ≡ true
image_held es k v h = found_held es k (images es k) v.held (found es k h)

pub on_some : {A : Type 0} (r : Option A) (P : Type 0) → is_some r ≡ true → OnSome r P → P
on_some (Some a) P e p = p
on_some None P e p = absurd (let t : false ≡ true = e in cc)

pub on_err : {A E : Type 0} (r : Result A E) (P : Type 0) → is_err r ≡ true → OnErr r P → P
on_err (Err a) P e p = p
on_err (Ok a) P e p = absurd (let t : false ≡ true = e in cc)

pub then_ok : {A E : Type 0} (r : Result A E) (P Q : Type 0) → (P → Q) → OnOk r P → OnOk r Q
then_ok (Ok a) P Q f p = f p
then_ok (Err e) P Q f p = p

pub then_err : {A E : Type 0} (r : Result A E) (P Q : Type 0) → (P → Q) → OnErr r P → OnErr r Q
then_err (Ok a) P Q f p = p
then_err (Err e) P Q f p = f p

-- a live object's image that was changed in its place
pub made : (k : ℕ) (f : Image → Image) (es new : List (ℕ × Image)) → is_gone (images es k) ≡ false → MatchOption (find nat_cmp k es) (new ≡ es) (λ i. new ≡ put nat_cmp k (f i) es) → new ≡ put nat_cmp k (f (images es k)) es
made k f es new live is = subst (λ r. MatchOption r (new ≡ es) (λ i. new ≡ put nat_cmp k (f i) es)) (found es k live) is

pub changed : (k : ℕ) (i : Image) (es new : List (ℕ × Image)) → new ≡ put nat_cmp k i es → (o : ℕ) → images new o ≡ instead k i (images es) o
changed k i es new e o = ap (λ xs. images xs o) e ∙ images-put k i es o

pub volume_same : (es new : List (ℕ × Image)) → new ≡ es → IsVolume es → IsVolume new
volume_same es new e v = subst IsVolume (sym e) v

pub volume_put : (k : ℕ) (i : Image) (es new : List (ℕ × Image)) → new ≡ put nat_cmp k i es → is_held i ≡ true → IsVolume es → IsVolume new
volume_put k i es new e h v = subst IsVolume (sym e) (IsVolume-put k i es h v)

pub volume_on_ok : {A E : Type 0} (r : Result A E) (k : ℕ) (i : Image) (es new : List (ℕ × Image)) → OnOk r (new ≡ put nat_cmp k i es) → OnErr r (new ≡ es) → is_held i ≡ true → IsVolume es → IsVolume new
volume_on_ok (Ok a) k i es new ok err h v = volume_put k i es new ok h v
volume_on_ok (Err a) k i es new ok err h v = volume_same es new err v

pub live-with_entries : (f : Entries → Entries) (i : Image) → is_gone i ≡ false → is_gone (with_entries f i) ≡ false
live-with_entries f Gone h = h
live-with_entries f (File m s w bs) h = refl
live-with_entries f (Dir m s w es) h = refl

-- an object that was added and removed again
pub added_removed : (k : ℕ) (i : Image) (es middle new : List (ℕ × Image)) → IsVolume es → is_gone (images es k) ≡ true → middle ≡ put nat_cmp k i es → new ≡ without nat_cmp k middle → new ≡ es
added_removed k i es middle new v h e f = f ∙ ap (without nat_cmp k) e ∙ without-put_new nat_cmp nat_cmp_total k i es v.sorted (absent es k v h)

-- the images of other objects stay
pub image_stays : (k o : ℕ) (i : Image) (es new : List (ℕ × Image)) → (o == k) ≡ false → new ≡ put nat_cmp k i es → images new o ≡ images es o
image_stays k o i es new h e = changed k i es new e o ∙ rw h

-- What a look-up and a count give.

pub looked : (es : List (ℕ × Image)) (k : ℕ) (i : Image) → IsVolume es → find nat_cmp k es ≡ Some i → (images es k ≡ i) × (is_gone i ≡ false)
looked es k i v f = (images_find es k ∙ ap (λ r. unwrap_or r Gone) f, held_live i (found_held es k i v.held f))

pub looked_held : (es : List (ℕ × Image)) (k : ℕ) (i : Image) → IsVolume es → find nat_cmp k es ≡ Some i → is_held i ≡ true
looked_held es k i v f = found_held es k i v.held f

climbs : (e : ℕ × Image) (es : List (ℕ × Image)) (b : ℕ × Image) → T (is_sorted nat_cmp (e ∷ es)) → Some b ≡ slice_get (e ∷ es) (length es) → e.0 + length es ≤ b.0
climbs e [] b h g = let same : b ≡ e = cc in subst (λ (x : ℕ × Image). e.0 + 0 ≤ x.0) (sym same) (omega arith)
climbs e (f ∷ fs) b h g =
    let later : f.0 + length fs ≤ b.0 = climbs f fs b (second (below_all nat_cmp e.0 (f ∷ fs)) (is_sorted nat_cmp (f ∷ fs)) h) g in
    let here : e.0 < f.0 = lower-tested e.0 f.0 (first (is_lt (nat_cmp e.0 f.0)) (below_all nat_cmp e.0 fs) (first (below_all nat_cmp e.0 (f ∷ fs)) (is_sorted nat_cmp (f ∷ fs)) h)) in
    omega arith

-- rising ids from 1 are no more than the last one says
pub counted : (es : List (ℕ × Image)) (a b : ℕ × Image) → T (is_sorted nat_cmp es) → Some a ≡ slice_get es 0 → Some b ≡ slice_get es (length es - 1) → 1 ≤ a.0 → length es ≤ b.0
counted [] a b h f g one = cc
counted (e ∷ es) a b h f g one =
    let same : a ≡ e = cc in
    let low : 1 ≤ e.0 = subst (λ (x : ℕ × Image). 1 ≤ x.0) same one in
    let last : suc (length es) - 1 ≡ length es = omega arith in
    let high : e.0 + length es ≤ b.0 = climbs e es b h (rw last at g) in
    omega arith
