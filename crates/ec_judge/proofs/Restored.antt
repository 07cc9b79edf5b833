-- What a loss leaves of the volume: only the objects of what it takes out are made anew.
use Rattle.std.proofs.Common.{◌≡◌, refl, sym, ap, subst, ◌∙◌, arith, ◌<◌, ◌≤◌, ◌+◌, ℕ, zero, suc, T, Bool, true, false, not, ◌==◌, ◌&&◌, ◌||◌, cond, List, [], ◌∷◌, ◌++◌, length, take, drop, get_or, Option, Some, None, append-nil}
use Rattle.std.specs.Prelude.{Result, Ok, Err, IfOk, MatchBool, is_some}
use Rattle.std.specs.List.{filter, list_any}
use Rattle.std.proofs.lemmas.Bool.{true≢false, and_from, and_parts, eqb-true}
use Rattle.std.proofs.lemmas.List.{take_all, take-append-drop}
use Rattle.std.proofs.lemmas.List.Elements.{filter-append}
use Rattle.ec_base.specs.Tables.{Table, put}
use Rattle.ec_order.proofs.OfNeeded.Maps.{noted_first}
use Rattle.ec_volume.specs.Update.{operands, has_operand, member, distinct, is_sound, fits, effect, first_unfit}
use Rattle.ec_volume.specs.Volume.{Images, images, image_next, image_after, after, fits_in_turn, formatted, Fits}
use Rattle.ec_volume.specs.declared.image.Image.{Image}
use Rattle.ec_volume.specs.declared.update.Update.{Update}
use Rattle.ec_pending.specs.OfOverlay.Shown.{laid_or, shown, has_own}
use Rattle.ec_pending.specs.declared.overlay.overlay.Overlay.{Overlay}
use Rattle.ec_order.specs.OfObjtable.Slots.{held}
use Rattle.ec_history.specs.History.{Op, Each, updates, is_one_of}
use Rattle.ec_history.proofs.OfLaws.ForPlacing.Numbers.{each-append, each-filter}
use Rattle.ec_history.proofs.OfLaws.ForPlacing.Objects.{fits-no, after-no}
use Rattle.ec_judge.specs.declared.carried.Kept.{Kept}
use Rattle.ec_judge.specs.declared.carried.Firm.{Firm}
use Rattle.ec_judge.proofs.Loops.{front-more, part-front, part-all}
use Rattle.ec_judge.proofs.Prefixes.{left-all}
use Rattle.ec_judge.proofs.Volumes.{first-none, or-out, none-some, fits-last}
use Rattle.ec_judge.specs.Carried.{op_of, ops_of, is_among, is_noted, AreLaid, AreNoted, IsFrontKept, IsFrontAt, IsWholeBeside, IsBehind, IsRestored, IsLeft}
use Rattle.ec_base.proofs.Bools.{first as left, off-of, on as holds, is-true}
use Rattle.ec_history.proofs.HistoryLemmas.{updates-append}
use Rattle.ec_history.proofs.OfLaws.ForPlacing.BasesAlike.{each-map}
use Rattle.ec_volume.proofs.Fitting.{image_joined as after-append, turns_joined as fits-append}

-- Operations that aren't on an object.

abbrev AreAway : ℕ → List Op → Type 0
AreAway o js = Each (λ k. has_operand o k.update ≡ false) js

away-after : (o : ℕ) (i : Image) (js : List Op) → AreAway o js → image_after o i (updates js) ≡ i
away-after o i [] h = refl
away-after o i (k ∷ js) h = after-no o i k.update (updates js) h.0 ∙ away-after o i js h.1

away-fits : (o : ℕ) (i : Image) (js : List Op) → AreAway o js → fits_in_turn o i (updates js) ≡ true
away-fits o i [] h = refl
away-fits o i (k ∷ js) h = fits-no o i k.update (updates js) h.0 ∙ away-fits o i js h.1

-- Operations of which those that don't pass aren't on an object.

abbrev ArePast : ℕ → (Op → Bool) → List Op → Type 0
ArePast o q js = Each (λ k. q k ≡ false → has_operand o k.update ≡ false) js

pass-after : (o : ℕ) (q : Op → Bool) (i : Image) (js : List Op) → ArePast o q js → image_after o i (updates (filter q js)) ≡ image_after o i (updates js)
pass-after o q i [] h = refl
pass-after o q i (k ∷ js) h = go (q k) refl (pass-after o q (image_next o i k.update) js h.1) (pass-after o q i js h.1)
  where
    go : (b : Bool) → q k ≡ b → image_after o (image_next o i k.update) (updates (filter q js)) ≡ image_after o (image_next o i k.update) (updates js) → image_after o i (updates (filter q js)) ≡ image_after o i (updates js)
        → image_after o i (updates (cond b (k ∷ filter q js) (filter q js))) ≡ image_after o (image_next o i k.update) (updates js)
    go true e on off = on
    go false e on off = off ∙ sym (after-no o i k.update (updates js) (h.0 e))

pass-fits : (o : ℕ) (q : Op → Bool) (i : Image) (js : List Op) → ArePast o q js → fits_in_turn o i (updates (filter q js)) ≡ fits_in_turn o i (updates js)
pass-fits o q i [] h = refl
pass-fits o q i (k ∷ js) h = go (q k) refl (pass-fits o q (image_next o i k.update) js h.1) (pass-fits o q i js h.1)
  where
    go : (b : Bool) → q k ≡ b → fits_in_turn o (image_next o i k.update) (updates (filter q js)) ≡ fits_in_turn o (image_next o i k.update) (updates js) → fits_in_turn o i (updates (filter q js)) ≡ fits_in_turn o i (updates js)
        → fits_in_turn o i (updates (cond b (k ∷ filter q js) (filter q js))) ≡ fits_in_turn o i (k.update ∷ updates js)
    go true e on off = ap (λ b. (not (has_operand o k.update) || fits k.update o i) && b) on
    go false e on off = off ∙ sym (fits-no o i k.update (updates js) (h.0 e))

-- Lists in two parts.

pub ops-append : (ks js : List Kept) → ops_of (ks ++ js) ≡ ops_of ks ++ ops_of js
ops-append [] js = refl
ops-append (k ∷ ks) js = ap (λ l. op_of k ∷ l) (ops-append ks js)

each-drop : (P : Kept → Type 0) (ks : List Kept) (m n : ℕ) → m ≤ n → Each P (drop m ks) → Each P (drop n ks)
each-drop P ks zero zero l h = h
each-drop P [] m zero l h = tt
each-drop P [] m (suc n) l h = tt
each-drop P (k ∷ ks) zero (suc n) l h = each-drop P ks zero n (omega arith) h.1
each-drop P (k ∷ ks) (suc m) zero l h = absurd (omega (arith, l))
each-drop P (k ∷ ks) (suc m) (suc n) l h = each-drop P ks m n (omega (arith, l)) h

each-ops : (P : Kept → Type 0) (Q : Op → Type 0) → ((k : Kept) → P k → Q (op_of k)) → (ks : List Kept) → Each P ks → Each Q (ops_of ks)
each-ops P Q f [] h = tt
each-ops P Q f (k ∷ ks) h = (f k h.0, each-ops P Q f ks h.1)

two-parts : (ks : List Kept) (n : ℕ) → ops_of (take n ks) ++ ops_of (drop n ks) ≡ ops_of ks
two-parts ks n = sym (ops-append (take n ks) (drop n ks)) ∙ ap ops_of (take-append-drop n ks)

-- Noted operands.

member-noted : (p : ℕ → Bool) (o : ℕ) (os : List ℕ) → member o (filter p os) ≡ (p o && member o os)
member-noted p o [] = none (p o)
  where
    none : (b : Bool) → false ≡ (b && false)
    none true = refl
    none false = refl
member-noted p o (x ∷ os) = go (p x) refl (o == x) refl (member-noted p o os)
  where
    off : (b : Bool) → (b && false) ≡ false
    off true = refl
    off false = refl

    go : (b : Bool) → p x ≡ b → (c : Bool) → (o == x) ≡ c → member o (filter p os) ≡ (p o && member o os) → member o (cond b (x ∷ filter p os) (filter p os)) ≡ (p o && (c || member o os))
    go true e true f r = ap (λ c. c || member o (filter p os)) f ∙ sym (ap (λ y. p y && true) (eqb-true o x f) ∙ ap (λ b. b && true) e)
    go true e false f r = ap (λ c. c || member o (filter p os)) f ∙ r
    go false e true f r = r ∙ ap (λ b. b && member o os) (ap p (eqb-true o x f) ∙ e) ∙ sym (ap (λ b. b && true) (ap p (eqb-true o x f) ∙ e))
    go false e false f r = r

-- noted operands of a sound update are distinct
distinct-noted : (p : ℕ → Bool) (os : List ℕ) → distinct os ≡ true → distinct (filter p os) ≡ true
distinct-noted p [] h = refl
distinct-noted p (x ∷ os) h =
    let parts = and_parts (not (member x os)) (distinct os) h in
    go (p x) (distinct-noted p os parts.1) (ap not (member-noted p x os) ∙ off (p x) (member x os) parts.0)
  where
    off : (a b : Bool) → not b ≡ true → not (a && b) ≡ true
    off true b e = e
    off false b e = refl

    go : (b : Bool) → distinct (filter p os) ≡ true → not (member x (filter p os)) ≡ true → distinct (cond b (x ∷ filter p os) (filter p os)) ≡ true
    go true r e = and_from _ _ e r
    go false r e = r

pub sound-distinct : (p : ℕ → Bool) (u : Update) (os : List ℕ) → T (is_sound u) → os ≡ filter p (operands u) → distinct os ≡ true
sound-distinct p u os s is = ap distinct is ∙ distinct-noted p (operands u) (is-true _ (left (distinct (operands u)) _ s))

fit-listed : (u : Update) (v : Images) (os : List ℕ) → first_unfit u v os ≡ None → (o : ℕ) → T (member o os) → T (fits u o (v o))
fit-listed u v [] e o m = absurd m
fit-listed u v (x ∷ os) e o m = go (fits u x (v x)) refl e (o == x) refl m (λ f. fit-listed u v os f o)
  where
    none : ◌≡◌ {A = Option ℕ} (Some x) None → ⊥
    none e = cc

    go : (b : Bool) → fits u x (v x) ≡ b → cond b (first_unfit u v os) (Some x) ≡ None → (c : Bool) → (o == x) ≡ c → T (c || member o os) → (first_unfit u v os ≡ None → T (member o os) → T (fits u o (v o))) → T (fits u o (v o))
    go true f e true g m rest = subst (λ y. T (fits u y (v y))) (sym (eqb-true o x g)) (holds f)
    go true f e false g m rest = rest e m
    go false f e c g m rest = absurd (none e)

-- One operation more, at the noted objects.
module _ (noted : ℕ → Bool) (q : Op → Bool) (ks : List Kept) (i : ℕ) (k : Kept) (within : i < length ks) (is : k ≡ get_or ks i k) where
  abbrev us : List Update
  us = updates (filter q (ops_of (take i ks)))

  abbrev objs : List ℕ
  objs = filter noted (operands k.update)

  -- the images behind the operation, at the noted ones of its operands
  abbrev pub Steps : Images → Images → Type 0
  Steps v w = (o : ℕ) → w o ≡ cond (member o objs) (effect k.update o (v o)) (v o)

  pub at-skips : (v : Images) → IsFrontAt noted q ks i v → q (op_of k) ≡ false → IsFrontAt noted q ks (i + 1) v
  at-skips v f e =
      let same : filter q (ops_of (take (i + 1) ks)) ≡ filter q (ops_of (take i ks)) = part-front ks i k within is q ∙ ap (λ x. filter q (ops_of (take i ks)) ++ cond x (op_of k ∷ []) []) e ∙ append-nil _ in
      record { fits = λ o m. subst (λ l. T (fits_in_turn o (formatted o) (updates l))) (sym same) (f.fits o m); same = λ o m. f.same o m ∙ ap (λ l. after formatted (updates l) o) (sym same) }

  on-noted : (o : ℕ) → noted o ≡ true → member o objs ≡ has_operand o k.update
  on-noted o m = member-noted noted o (operands k.update) ∙ ap (λ b. b && has_operand o k.update) m

  off-noted : (o : ℕ) → noted o ≡ false → member o objs ≡ false
  off-noted o m = member-noted noted o (operands k.update) ∙ ap (λ b. b && has_operand o k.update) m

  pub at-takes : (v w : Images) → IsFrontAt noted q ks i v → q (op_of k) ≡ true → first_unfit k.update v objs ≡ None → Steps v w → IsFrontAt noted q ks (i + 1) w
  at-takes v w f e none step =
      let same : updates (filter q (ops_of (take (i + 1) ks))) ≡ us ++ k.update ∷ [] =
      ap updates (part-front ks i k within is q ∙ ap (λ x. filter q (ops_of (take i ks)) ++ cond x (op_of k ∷ []) []) e) ∙ updates-append (filter q (ops_of (take i ks))) (op_of k ∷ []) in
      let fit : (o : ℕ) → noted o ≡ true → (not (has_operand o k.update) || fits k.update o (v o)) ≡ true = λ o m. go o (has_operand o k.update) (λ t. fit-listed k.update v objs none o (subst T (sym (on-noted o m)) t)) in
      record {
        fits = λ o m. subst (λ l. T (fits_in_turn o (formatted o) l)) (sym same) (holds (fits-append o (formatted o) us (k.update ∷ []) ∙ and_from _ _ (is-true _ (f.fits o m))
            (and_from _ true (ap (λ j. not (has_operand o k.update) || fits k.update o j) (sym (f.same o m)) ∙ fit o m) refl)));
        same = λ o m. step o ∙ ap (λ b. cond b (effect k.update o (v o)) (v o)) (on-noted o m) ∙ ap (λ j. image_next o j k.update) (f.same o m) ∙ sym (after-append o (formatted o) us (k.update ∷ [])) ∙ ap (λ l. after formatted l o) (sym same);
      }
    where
      go : (o : ℕ) (b : Bool) → (T b → T (fits k.update o (v o))) → (not b || fits k.update o (v o)) ≡ true
      go o true h = is-true _ (h tt)
      go o false h = refl

  pub beside-keeps : (v w : Images) → IsWholeBeside noted q ks v → Steps v w → IsWholeBeside noted q ks w
  beside-keeps v w b step = record { fits = b.fits; same = λ o m. step o ∙ ap (λ x. cond x (effect k.update o (v o)) (v o)) (off-noted o m) ∙ b.same o m }

  pub at-unfit : (v : Images) (o : ℕ) → IsFrontAt noted q ks i v → q (op_of k) ≡ true → first_unfit k.update v objs ≡ Some o → ¬ (Fits formatted (updates (filter q (ops_of ks))))
  at-unfit v o f e some all =
      let rest : List Op = filter q (ops_of (drop (i + 1) ks)) in
      let same : updates (filter q (ops_of ks)) ≡ us ++ k.update ∷ updates rest =
      ap updates (part-all ks i k within is q ∙ ap (λ x. filter q (ops_of (take i ks)) ++ cond x (op_of k ∷ rest) rest) e) ∙ updates-append (filter q (ops_of (take i ks))) (op_of k ∷ rest) in
      none-some (first_unfit k.update v objs) o (first-none k.update v objs (λ p m. fit p (noted p) refl (is-true _ m) (fits-last formatted us (updates rest) k.update (subst (Fits formatted) same all) p))) some
    where
      fit : (p : ℕ) (b : Bool) → noted p ≡ b → member p objs ≡ true → T (not (has_operand p k.update) || fits k.update p (after formatted us p)) → T (fits k.update p (v p))
      fit p true n m h = subst (λ j. T (fits k.update p j)) (sym (f.same p n)) (or-out (has_operand p k.update) _ h (holds (sym (on-noted p n) ∙ m)))
      fit p false n m h = absurd (true≢false (sym m ∙ off-noted p n))

-- at the end of the operations
pub whole-front : (noted : ℕ → Bool) (q : Op → Bool) (ks : List Kept) (v : Images) → IsFrontAt noted q ks (length ks) v → IsWholeBeside noted q ks v → IsFrontKept q ks (length ks) v
whole-front noted q ks v f b = record { fits = λ o. fit o (noted o) refl; same = λ o. same o (noted o) refl }
  where
    whole : take (length ks) ks ≡ ks
    whole = take_all (length ks) ks (omega arith)

    fit : (o : ℕ) (x : Bool) → noted o ≡ x → T (fits_in_turn o (formatted o) (updates (filter q (ops_of (take (length ks) ks)))))
    fit o true e = f.fits o e
    fit o false e = subst (λ l. T (fits_in_turn o (formatted o) (updates (filter q (ops_of l))))) (sym whole) (b.fits o e)

    same : (o : ℕ) (x : Bool) → noted o ≡ x → v o ≡ after formatted (updates (filter q (ops_of (take (length ks) ks)))) o
    same o true e = f.same o e
    same o false e = b.same o e ∙ ap (λ l. after formatted (updates (filter q (ops_of l))) o) (sym whole)

-- Objects shown as the volume below has them.

pub none-restored : (l : Overlay) (t : Table (Unit {0})) → t ≡ [] → IsRestored l l (is_noted t)
none-restored l t e = record {
  under = refl;
  shown = λ o. ap (λ x. cond (is_noted x o) (images l.under o) (shown l o)) (sym e);
  own = λ o h. h;
  laid = λ o m. absurd (true≢false (sym m ∙ ap (λ x. is_noted x o) e));
}

pub one-noted : (obj : ℕ) (old new : Table (Unit {0})) → new ≡ put obj tt old → (o : ℕ) → is_noted new o ≡ ((o == obj) || is_noted old o)
one-noted obj old new is o = noted_first (obj ∷ []) [] obj old new new refl is (λ j. refl) o ∙ ap (λ b. b || is_noted old o) (only (o == obj))
  where
    only : (b : Bool) → (b || false) ≡ b
    only true = refl
    only false = refl

pub one-restored : (v old new : Overlay) (obj : ℕ) (noted more : ℕ → Bool) → ((o : ℕ) → more o ≡ ((o == obj) || noted o)) → ((o : ℕ) → shown new o ≡ cond (o == obj) (images old.under obj) (shown old o))
    → ((o : ℕ) → T (has_own old o) → T (has_own new o)) → T (has_own new obj) → new.under ≡ old.under → IsRestored v old noted → IsRestored v new more
one-restored v old new obj noted more m images-are own laid under r = record {
  under = under ∙ r.under;
  shown = λ o. images-are o ∙ show o (o == obj) refl ∙ ap (λ b. cond b (images v.under o) (shown v o)) (sym (m o));
  own = λ o h. own o (r.own o h);
  laid = λ o e. lay o (o == obj) refl (sym (m o) ∙ e);
}
  where
    show : (o : ℕ) (b : Bool) → (o == obj) ≡ b → cond b (images old.under obj) (shown old o) ≡ cond (b || noted o) (images v.under o) (shown v o)
    show o true e = ap (λ u. images u obj) r.under ∙ ap (images v.under) (sym (eqb-true o obj e))
    show o false e = r.shown o

    lay : (o : ℕ) (b : Bool) → (o == obj) ≡ b → (b || noted o) ≡ true → T (has_own new o)
    lay o true e h = subst (λ x. T (has_own new x)) (sym (eqb-true o obj e)) laid
    lay o false e h = own o (r.laid o h)

-- more objects are noted
pub noted-more : (p : Kept → Bool) (old new : ℕ → Bool) → ((o : ℕ) → old o ≡ true → new o ≡ true) → (ks : List Kept) → AreNoted p old ks → AreNoted p new ks
noted-more p old new f ks h = each-map (λ k. p k ≡ true → (o : ℕ) → T (member o (operands k.update)) → old o ≡ true) (λ k. p k ≡ true → (o : ℕ) → T (member o (operands k.update)) → new o ≡ true) (λ k g e o m. f o (g e o m)) ks h

-- one operation more
pub noted-next : (p : Kept → Bool) (noted : ℕ → Bool) (ks : List Kept) (i : ℕ) (k : Kept) → i < length ks → k ≡ get_or ks i k → AreNoted p noted (take i ks) → (p k ≡ true → (o : ℕ) → T (member o (operands k.update)) → noted o ≡ true) → AreNoted p noted (take (i + 1) ks)
noted-next p noted ks i k within is h one =
    subst (AreNoted p noted) (sym (front-more ks i k within is)) (each-append (λ k. p k ≡ true → (o : ℕ) → T (member o (operands k.update)) → noted o ≡ true) (take i ks) (k ∷ []) h (one, tt))

pub either-noted : (o : ℕ) (os : List ℕ) (old new : ℕ → Bool) → ((o : ℕ) → new o ≡ (member o os || old o)) → old o ≡ true → new o ≡ true
either-noted o os old new h e = h o ∙ go (member o os) e
  where
    go : (b : Bool) → old o ≡ true → (b || old o) ≡ true
    go true e = refl
    go false e = e

pub member-noted-now : (o : ℕ) (os : List ℕ) (old new : ℕ → Bool) → ((o : ℕ) → new o ≡ (member o os || old o)) → T (member o os) → new o ≡ true
member-noted-now o os old new h m = h o ∙ ap (λ b. b || old o) (is-true _ m)

-- What is shown where the volume below has moved on.
module _ (c b : ℕ) (ns : List ℕ) (ks : List Kept) where
  abbrev pub q : Op → Bool
  q k = not (is_one_of c b ns k)

  -- where none is lost
  unlost-past : (o : ℕ) (js : List Kept) → list_any (is_among c b ns) js ≡ false → ArePast o q (ops_of js)
  unlost-past o [] e = tt
  unlost-past o (k ∷ js) e = go (is_among c b ns k) refl e (unlost-past o js)
    where
      go : (x : Bool) → is_among c b ns k ≡ x → (x || list_any (is_among c b ns) js) ≡ false → (list_any (is_among c b ns) js ≡ false → ArePast o q (ops_of js)) → ArePast o q (ops_of (k ∷ js))
      go true d e rest = absurd (true≢false e)
      go false d e rest = (λ f. absurd (true≢false (sym (ap not d) ∙ f)), rest e)

  module _ (l : Overlay) (n : ℕ) (h : IsBehind c b ns ks n (images l.under)) where
    -- an object that no operation behind is on
    under-same : (o : ℕ) → AreAway o (ops_of (drop n ks)) → images l.under o ≡ after formatted (updates (ops_of ks)) o
    under-same o away =
        h.front.same o
        ∙ pass-after o q (formatted o) (ops_of (take n ks)) (unlost-past o (take n ks) h.unlost)
        ∙ sym (away-after o (image_after o (formatted o) (updates (ops_of (take n ks)))) (ops_of (drop n ks)) away)
        ∙ sym (after-append o (formatted o) (updates (ops_of (take n ks))) (updates (ops_of (drop n ks))))
        ∙ ap (λ us. after formatted us o) (sym (updates-append (ops_of (take n ks)) (ops_of (drop n ks))))
        ∙ ap (λ js. after formatted (updates js) o) (two-parts ks n)

    pub still : (l0 : Overlay) (m : ℕ) → m ≤ n → AreLaid ks m l0 → l.over ≡ l0.over → ((o : ℕ) → shown l0 o ≡ after formatted (updates (ops_of ks)) o) → (o : ℕ) → shown l o ≡ after formatted (updates (ops_of ks)) o
    still l0 m le laid over show o = go (held o l0.over) refl
      where
        go : (x : Option Image) → held o l0.over ≡ x → shown l o ≡ after formatted (updates (ops_of ks)) o
        go (Some i) e = ap (λ t. laid_or l.under o (held o t)) over ∙ ap (laid_or l.under o) e ∙ sym (ap (laid_or l0.under o) e) ∙ show o
        go None e =
            ap (λ t. laid_or l.under o (held o t)) over ∙ ap (laid_or l.under o) e
            ∙ under-same o (each-ops (λ k. (p : ℕ) → T (member p (operands k.update)) → T (has_own l0 p)) (λ k. has_operand o k.update ≡ false) (λ k f. off-of (has_operand o k.update) (λ t. subst (λ x. T (is_some x)) e (f o t))) (drop n ks)
            (each-drop (λ k. (p : ℕ) → T (member p (operands k.update)) → T (has_own l0 p)) ks m n le laid))

    -- the volume with the operands of what is lost, or of all, as it is below
    module _ (w : Overlay) (noted : ℕ → Bool) (r : IsRestored l w noted) where
      pub at-of : IsFrontAt noted q ks n (shown w)
      at-of = record { fits = λ o m. h.front.fits o; same = λ o m. r.shown o ∙ ap (λ x. cond x (images l.under o) (shown l o)) m ∙ h.front.same o }

      lost-past : (o : ℕ) → noted o ≡ false → AreNoted (is_among c b ns) noted (drop n ks) → ArePast o q (ops_of ks)
      lost-past o m a =
          subst (ArePast o q) (two-parts ks n)
          (each-append (λ k. q k ≡ false → has_operand o k.update ≡ false) (ops_of (take n ks)) (ops_of (drop n ks)) (unlost-past o (take n ks) h.unlost)
          (each-ops (λ k. is_among c b ns k ≡ true → (p : ℕ) → T (member p (operands k.update)) → noted p ≡ true) (λ k. q k ≡ false → has_operand o k.update ≡ false)
          (λ k f e. off-of (has_operand o k.update) (λ t. true≢false (sym (f (lost (is_among c b ns k) e) o t) ∙ m))) (drop n ks) a))
        where
          lost : (x : Bool) → not x ≡ false → x ≡ true
          lost true e = refl
          lost false e = absurd (true≢false e)

      pub beside-lost : Fits formatted (updates (ops_of ks)) → ((o : ℕ) → shown l o ≡ after formatted (updates (ops_of ks)) o) → AreNoted (is_among c b ns) noted (drop n ks) → IsWholeBeside noted q ks (shown w)
      beside-lost f show a = record {
        fits = λ o m. holds (pass-fits o q (formatted o) (ops_of ks) (lost-past o m a) ∙ is-true _ (f o));
        same = λ o m. r.shown o ∙ ap (λ x. cond x (images l.under o) (shown l o)) m ∙ show o ∙ sym (pass-after o q (formatted o) (ops_of ks) (lost-past o m a));
      }

      pub beside-all : ((o : ℕ) → has_own l o ≡ false) → AreNoted (λ k. true) noted (drop n ks) → IsWholeBeside noted q ks (shown w)
      beside-all none a = record {
        fits = λ o m. holds (ap (fits_in_turn o (formatted o)) (sym (parts o)) ∙ fits-append o (formatted o) (first o) (rest o) ∙ and_from _ _ (is-true _ (h.front.fits o)) (away-fits o _ (filter q (ops_of (drop n ks))) (away o m)));
        same = λ o m.
            r.shown o ∙ ap (λ x. cond x (images l.under o) (shown l o)) m ∙ bare o (held o l.over) (none o) ∙ h.front.same o
            ∙ sym (away-after o (image_after o (formatted o) (first o)) (filter q (ops_of (drop n ks))) (away o m)) ∙ sym (after-append o (formatted o) (first o) (rest o)) ∙ ap (λ us. after formatted us o) (parts o);
      }
        where
          first : ℕ → List Update
          first o = updates (filter q (ops_of (take n ks)))

          rest : ℕ → List Update
          rest o = updates (filter q (ops_of (drop n ks)))

          parts : (o : ℕ) → first o ++ rest o ≡ updates (filter q (ops_of ks))
          parts o = sym (updates-append (filter q (ops_of (take n ks))) (filter q (ops_of (drop n ks)))) ∙ ap updates (sym (filter-append q (ops_of (take n ks)) (ops_of (drop n ks)))) ∙ ap (λ js. updates (filter q js)) (two-parts ks n)

          bare : (o : ℕ) (x : Option Image) → is_some x ≡ false → laid_or l.under o x ≡ images l.under o
          bare o None e = refl
          bare o (Some i) e = absurd (true≢false e)

          away : (o : ℕ) → noted o ≡ false → AreAway o (filter q (ops_of (drop n ks)))
          away o m = passing (drop n ks) a
            where
              passing : (js : List Kept) → AreNoted (λ k. true) noted js → AreAway o (filter q (ops_of js))
              passing [] a = tt
              passing (k ∷ js) a = go (q (op_of k)) (passing js a.1)
                where
                  go : (x : Bool) → AreAway o (filter q (ops_of js)) → AreAway o (cond x (op_of k ∷ filter q (ops_of js)) (filter q (ops_of js)))
                  go true z = (off-of (has_operand o k.update) (λ t. true≢false (sym (a.0 refl o t) ∙ m)), z)
                  go false z = z

  -- the operations that stay, behind the first ones
  drop-left : (js : List Kept) (n : ℕ) → list_any (is_among c b ns) (take n js) ≡ false → drop n (filter (λ k. not (is_among c b ns k)) js) ≡ filter (λ k. not (is_among c b ns k)) (drop n js)
  drop-left js zero e = refl
  drop-left [] (suc n) e = refl
  drop-left (k ∷ js) (suc n) e = go (is_among c b ns k) e (drop-left js n)
    where
      go : (x : Bool) → (x || list_any (is_among c b ns) (take n js)) ≡ false → (list_any (is_among c b ns) (take n js) ≡ false → drop n (filter (λ k. not (is_among c b ns k)) js) ≡ filter (λ k. not (is_among c b ns k)) (drop n js))
          → drop (suc n) (cond (not x) (k ∷ filter (λ k. not (is_among c b ns k)) js) (filter (λ k. not (is_among c b ns k)) js)) ≡ filter (λ k. not (is_among c b ns k)) (drop n js)
      go true d f = absurd (true≢false d)
      go false d f = f d

  pub laid-left : (n : ℕ) (l : Overlay) → list_any (is_among c b ns) (take n ks) ≡ false → AreLaid ks n l → AreLaid (filter (λ k. not (is_among c b ns k)) ks) n l
  laid-left n l e h = subst (Each (λ k. (o : ℕ) → T (member o (operands k.update)) → T (has_own l o))) (sym (drop-left ks n e)) (each-filter (λ k. (o : ℕ) → T (member o (operands k.update)) → T (has_own l o)) (λ k. not (is_among c b ns k)) (drop n ks) h)

pub laid-more : (ks : List Kept) (m n : ℕ) (l w : Overlay) → m ≤ n → ((o : ℕ) → T (has_own l o) → T (has_own w o)) → AreLaid ks m l → AreLaid ks n w
laid-more ks m n l w le own h = each-map (λ k. (o : ℕ) → T (member o (operands k.update)) → T (has_own l o)) (λ k. (o : ℕ) → T (member o (operands k.update)) → T (has_own w o)) (λ k f o t. own o (f o t)) (drop n ks) (each-drop (λ k. (o : ℕ) → T (member o (operands k.update)) → T (has_own l o)) ks m n le h)

drop-push : (ks : List Kept) (k : Kept) (n : ℕ) → n ≤ length ks → drop n (ks ++ k ∷ []) ≡ drop n ks ++ k ∷ []
drop-push ks k zero l = refl
drop-push [] k (suc n) l = absurd (omega (arith, l))
drop-push (x ∷ ks) k (suc n) l = drop-push ks k n (omega (arith, l))

pub laid-push : (ks : List Kept) (k : Kept) (n : ℕ) (l w : Overlay) → n ≤ length ks → ((o : ℕ) → T (has_own l o) → T (has_own w o)) → ((o : ℕ) → T (member o (operands k.update)) → T (has_own w o)) → AreLaid ks n l → AreLaid (ks ++ k ∷ []) n w
laid-push ks k n l w le own new h =
    subst (Each (λ k. (o : ℕ) → T (member o (operands k.update)) → T (has_own w o))) (sym (drop-push ks k n le))
    (each-append (λ k. (o : ℕ) → T (member o (operands k.update)) → T (has_own w o)) (drop n ks) (k ∷ []) (laid-more ks n n l w (omega arith) own h) (new, tt))

pub laid-noted : (ks : List Kept) (n : ℕ) (w : Overlay) (noted : ℕ → Bool) → ((o : ℕ) → noted o ≡ true → T (has_own w o)) → AreNoted (λ k. true) noted (drop n ks) → AreLaid ks n w
laid-noted ks n w noted own h = each-map (λ k. true ≡ true → (o : ℕ) → T (member o (operands k.update)) → noted o ≡ true) (λ k. (o : ℕ) → T (member o (operands k.update)) → T (has_own w o)) (λ k f o t. own o (f refl o t)) (drop n ks) h

-- What a loss leaves, from its parts.
module _ (c b : ℕ) (ns : List ℕ) (ks : List Kept) (anew : Bool) (l0 l1 l2 w : Overlay) (n0 n1 n : ℕ) (noted : ℕ → Bool)
    (begun : MatchBool anew ((o : ℕ) → has_own l1 o ≡ false) ((l1 ≡ l0) × (n1 ≡ n0))) (onward : n1 ≤ n) (over : l2.over ≡ l1.over) (h : IsBehind c b ns ks n (images l2.under))
    (r : IsRestored l2 w noted) (a : AreNoted (λ k. anew || is_among c b ns k) noted (drop n ks))
    (laid : AreLaid ks n0 l0) (fit : Fits formatted (updates (ops_of ks))) (show : (o : ℕ) → shown l0 o ≡ after formatted (updates (ops_of ks)) o) where
  -- what had an image of its own before has one
  own-over : (o : ℕ) → has_own l2 o ≡ has_own l1 o
  own-over o = ap (λ t. is_some (held o t)) over

  pub beside-of : IsWholeBeside noted (λ k. not (is_one_of c b ns k)) ks (shown w)
  beside-of = go anew begun a
    where
      go : (x : Bool) → MatchBool x ((o : ℕ) → has_own l1 o ≡ false) ((l1 ≡ l0) × (n1 ≡ n0)) → AreNoted (λ k. x || is_among c b ns k) noted (drop n ks) → IsWholeBeside noted (λ k. not (is_one_of c b ns k)) ks (shown w)
      go true none a = beside-all c b ns ks l2 n h w noted r (λ o. own-over o ∙ none o) a
      go false same a =
          let first = same.1 in
          beside-lost c b ns ks l2 n h w noted r fit (still c b ns ks l2 n h l0 n0 (omega (arith, onward, first)) laid (over ∙ ap (λ l. l.over) same.0) show) a

  laid-now : AreLaid ks n w
  laid-now = go anew begun a
    where
      go : (x : Bool) → MatchBool x ((o : ℕ) → has_own l1 o ≡ false) ((l1 ≡ l0) × (n1 ≡ n0)) → AreNoted (λ k. x || is_among c b ns k) noted (drop n ks) → AreLaid ks n w
      go true none a = laid-noted ks n w noted r.laid a
      go false same a =
          let first = same.1 in
          laid-more ks n0 n l0 w (omega (arith, onward, first)) (λ o t. r.own o (subst T (sym (own-over o ∙ ap (λ l. has_own l o) same.0)) t)) laid

  pub left-of : {E : Type 0} (res : Result Bool E) (f : Firm) → f.count ≡ n
      → IfOk res (λ fits. MatchBool fits (IsFrontKept (λ k. not (is_one_of c b ns k)) ks (length ks) (shown f.volume)) (¬ (Fits formatted (updates (filter (λ k. not (is_one_of c b ns k)) (ops_of ks))))))
      → IfOk res (λ fits. (o : ℕ) → T (has_own w o) → T (has_own f.volume o)) → IfOk res (λ fits. f.volume.under ≡ w.under)
      → IfOk res (λ fits. MatchBool fits (IsLeft c b ns ks f) (¬ (Fits formatted (updates (filter (λ k. not (is_one_of c b ns k)) (ops_of ks))))))
  left-of (Ok true) f count front own under =
      left-all c b ns ks f n l2.under front h count (under ∙ r.under)
      (subst (λ m. AreLaid (filter (λ k. not (is_among c b ns k)) ks) m f.volume) (sym count) (laid-left c b ns ks n f.volume h.unlost (laid-more ks n n w f.volume (omega arith) own laid-now)))
  left-of (Ok false) f count front own under = front
  left-of (Err e) f count front own under = tt
