-- Behind one more line the lines still tell what became of operations, where all facts hold.
use Rattle.std.proofs.Common.{◌≡◌, refl, sym, ap, subst, ◌∙◌, inl, inr, ◌⊎◌, ◌≤◌, ℕ, T, Bool, true, false, not, ◌==◌, ◌&&◌, ◌||◌, cond, map, length, List, [], ◌∷◌, ◌++◌, Option, Some, None, append-nil}
use Rattle.std.specs.Prelude.{is_some}
use Rattle.std.specs.List.{filter}
use Rattle.std.proofs.lemmas.Bool.{and_parts, eqb-true}
use Rattle.ec_base.specs.Tables.{at_or}
use Rattle.ec_base.specs.declared.ids.Age.{Age}
use Rattle.ec_volume.specs.Update.{member}
use Rattle.ec_volume.specs.Volume.{Images}
use Rattle.ec_history.specs.History.{Base, History, Op, Each, Throughout, numbers, of_start, Covers}
use Rattle.ec_history.specs.Legal.{IsLegal}
use Rattle.ec_history.specs.Placing.{ArePlaceable, place, watch}
use Rattle.ec_history.specs.declared.entry.Entry.{Entry}
use Rattle.ec_history.specs.declared.shown.Shown.{Shown}
use Rattle.ec_sessions.specs.declared.slot.Slot.{Slot}
use Rattle.ec_durable.specs.Durable.{slot}
use Rattle.ec_coherence.specs.System.{System, Ghost, base_of, is_of, undurable}
use Rattle.ec_coherence.specs.Events.{shown_boot}
use Rattle.ec_coherence.specs.CommitLaws.{AllAgree}
use Rattle.ec_coherence.specs.Watches.{WatchAgrees, still_in}
use Rattle.ec_history.specs.OfLaws.Accounts.{IsUndurable, LinesTell}
use Rattle.ec_history.specs.OfLaws.Laws.{OneMore}
use Rattle.ec_history.proofs.OfLaws.Telling.{nothing-tells, one-more}
use Rattle.ec_lawful.specs.Headline.{AreLawful, FrontsAreLawful}
use Rattle.ec_lawful.specs.HeadlineLaws.{GoesBy, TellsAll}
use Rattle.ec_lawful.proofs.ForWhole.Rebase.{SameIds, fronts-by, legal-by, tells-by}
use Rattle.ec_base.proofs.Bools.{clash as off, is-true, holds-true as holds}

-- one of the operations has this number
pub numbered-in : (n : ℕ) (P : Op → Type 0) (ks : List Op) → Each P ks → T (member n (numbers ks)) → (k : Op) × P k × (k.number ≡ n)
numbered-in n P [] a t = absurd t
numbered-in n P (k ∷ ks) a t = go (n == k.number) refl t (numbered-in n P ks a.1)
  where
    go : (b : Bool) → (n == k.number) ≡ b → T (b || member n (numbers ks)) → (T (member n (numbers ks)) → (j : Op) × P j × (j.number ≡ n)) → (j : Op) × P j × (j.number ≡ n)
    go true e t more = (k, a.0, sym (eqb-true n k.number e))
    go false e t more = more t

each-filtered : (p : Op → Bool) (ks : List Op) → Each (λ k. T (p k)) (filter p ks)
each-filtered p [] = tt
each-filtered p (k ∷ ks) = go (p k) refl (each-filtered p ks)
  where
    go : (b : Bool) → p k ≡ b → Each (λ j. T (p j)) (filter p ks) → Each (λ j. T (p j)) (cond b (k ∷ filter p ks) (filter p ks))
    go true e r = (holds (p k) e, r)
    go false e r = r

-- an operation that lines show as not durable
pub record Still (g : System) (c b n : ℕ) : Type 0 where
  pub slot_of : Slot
  pub in_slot : slot g.durable c ≡ Some slot_of
  pub is_open : T slot_of.is_open
  pub boot : b ≡ shown_boot g c (slot_of.age).boot
  pub op : Op
  pub clerk : op.clerk ≡ c
  pub start : op.boot ≡ (slot_of.age).boot
  pub number : op.number ≡ n
  pub undurable : T (not (g.ghost.is_durable op))

-- it is one of an open session
pub still-of : (g : System) → AllAgree g → (c b n : ℕ) → IsUndurable c b n g.ghost.shown → Still g c b n
still-of g all c b n u = go (w.open_start b u.open_start)
  where
    w : WatchAgrees g c (watch c g.ghost.shown)
    w = all.1 c

    go : (sl : Slot) × (slot g.durable c ≡ Some sl) × T sl.is_open × (b ≡ shown_boot g c (sl.age).boot) → Still g c b n
    go (sl, q, o, e) =
        let t : T (member n (numbers (undurable g.ghost sl.session))) = subst (λ l. T (member n l)) (w.still ∙ ap (still_in g.ghost) q ∙ ap (λ z. elim z as (λ y. List ℕ) [ true ↦ numbers (undurable g.ghost sl.session) | false ↦ [] ]) (is-true sl.is_open o)) u.among in
        let k = numbered-in n (λ j. T (is_of (g.ghost.owner sl.session) j && not (g.ghost.is_durable j))) (undurable g.ghost sl.session) (each-filtered (λ j. is_of (g.ghost.owner sl.session) j && not (g.ghost.is_durable j)) g.ghost.kept) t in
        let both = and_parts (is_of (g.ghost.owner sl.session) k.0) (not (g.ghost.is_durable k.0)) (is-true _ k.1) in
        let own : of_start c (sl.age).boot k.0 ≡ true = sym (ap (λ z. is_of z k.0) ((all.0).sessions.slots c sl q).2) ∙ both.0 in
        let ids = and_parts (c == (k.0).clerk) ((sl.age).boot == (k.0).boot) own in
        record {
          slot_of = sl;
          in_slot = q;
          is_open = o;
          boot = e;
          op = k.0;
          clerk = sym (eqb-true c (k.0).clerk ids.0);
          start = sym (eqb-true (sl.age).boot (k.0).boot ids.1);
          number = k.2;
          undurable = holds (not (g.ghost.is_durable k.0)) both.1;
        }

ids-by : (g h : System) (ss : List Shown) → GoesBy g h ss → SameIds (base_of g).fresh (base_of h).fresh g.ghost.shown
ids-by g h ss go p le = sym (go.fresh p le)

-- what the lines so far tell they tell over the base behind the step
rebased : (g h : System) (ss : List Shown) → GoesBy g h ss → TellsAll g → LinesTell (base_of h) g.ghost.shown
rebased g h ss go t = subst (λ v. LinesTell (record { volume = v; fresh = (base_of h).fresh }) g.ghost.shown) (sym go.origin)
    (tells-by g.origin (base_of g).fresh (base_of h).fresh g.ghost.shown (ids-by g h ss go) t.told)

-- so are their fronts
rebased-fronts : (g h : System) (ss : List Shown) → GoesBy g h ss → TellsAll g → FrontsAreLawful (base_of h) h.durable.max_objects g.ghost.shown
rebased-fronts g h ss go t = subst (λ m. FrontsAreLawful (base_of h) m g.ghost.shown) (sym go.most) (subst (λ v. FrontsAreLawful (record { volume = v; fresh = (base_of h).fresh }) g.durable.max_objects g.ghost.shown) (sym go.origin)
    (fronts-by g.origin (base_of g).fresh (base_of h).fresh g.durable.max_objects g.ghost.shown (ids-by g h ss go) t.fronts))

pub nothing-tells-all : (g : System) → g.ghost.shown ≡ [] → TellsAll g
nothing-tells-all g q = record {
  told = subst (LinesTell (base_of g)) (sym q) (nothing-tells (base_of g));
  fronts = λ front rest e. subst (AreLawful (base_of g) g.durable.max_objects) (sym (none front rest (e ∙ q))) record { placed = tt; history = tt; fsync = tt };
}
  where
    none : (xs ys : List Shown) → xs ++ ys ≡ [] → xs ≡ []
    none [] ys e = refl
    none (x ∷ xs) ys e = absurd cc

pub quiet-tells : (g h : System) → GoesBy g h [] → TellsAll g → TellsAll h
quiet-tells g h go t =
    let same : h.ghost.shown ≡ g.ghost.shown = go.shown ∙ append-nil g.ghost.shown in
    record {
      told = subst (LinesTell (base_of h)) (sym same) (rebased g h [] go t);
      fronts = subst (FrontsAreLawful (base_of h) h.durable.max_objects) (sym same) (rebased-fronts g h [] go t);
    }

-- a front of one more line is a front of the lines before it, or all
front-or : (front rest ss : List Shown) (s : Shown) → front ++ rest ≡ ss ++ s ∷ [] → ((more : List Shown) × (front ++ more ≡ ss)) ⊎ (front ≡ ss ++ s ∷ [])
front-or [] rest ss s q = inl (ss, refl)
front-or (x ∷ front) rest [] s q = inr (ap (λ z. x ∷ z) (none front rest (tail q)) ∙ ap (λ z. z ∷ []) (head q))
  where
    none : (xs ys : List Shown) → xs ++ ys ≡ [] → xs ≡ []
    none [] ys e = refl
    none (y ∷ xs) ys e = absurd cc

    tail : {A : Type 0} {x y : A} {xs ys : List A} → x ∷ xs ≡ y ∷ ys → xs ≡ ys
    tail e = cc

    head : {A : Type 0} {x y : A} {xs ys : List A} → x ∷ xs ≡ y ∷ ys → x ≡ y
    head e = cc
front-or (x ∷ front) rest (y ∷ ss) s q = elim (front-or front rest ss s (tail q)) [
  | inl r ↦ inl (r.0, ap (λ z. x ∷ z) r.1 ∙ ap (λ z. z ∷ ss) (head q))
  | inr r ↦ inr (ap (λ z. x ∷ z) r ∙ ap (λ z. z ∷ ss ++ s ∷ []) (head q))
]
  where
    tail : {A : Type 0} {x y : A} {xs ys : List A} → x ∷ xs ≡ y ∷ ys → xs ≡ ys
    tail e = cc

    head : {A : Type 0} {x y : A} {xs ys : List A} → x ∷ xs ≡ y ∷ ys → x ≡ y
    head e = cc

module _ (g h : System) (before : AllAgree g) (behind : AllAgree h) where
  module _ (s : Shown) (go : GoesBy g h (s ∷ [])) where
    abbrev ss : List Shown
    ss = g.ghost.shown

    settled : Throughout (λ x e. (c b n : ℕ) → Covers (base_of h) x e c b n → IsUndurable c b n h.ghost.shown → ⊥) [] h.ghost.history
    settled = each [] h.ghost.history (behind.0).events.covered
      where
        none : (x : History) (e : ℕ × Entry) → ((o : Op) → Covers (base_of h) x e o.clerk (shown_boot h o.clerk o.boot) o.number → T (h.ghost.is_durable o))
            → (c b n : ℕ) → Covers (base_of h) x e c b n → IsUndurable c b n h.ghost.shown → ⊥
        none x e f c b n v u =
            let k = still-of h behind c b n u in
            off (h.ghost.is_durable k.op) k.undurable (f k.op (subst (λ i. Covers (base_of h) x e i (shown_boot h i (k.op).boot) (k.op).number) (sym k.clerk)
            (subst (λ i. Covers (base_of h) x e c (shown_boot h c i) (k.op).number) (sym k.start) (subst (λ i. Covers (base_of h) x e c i (k.op).number) k.boot (subst (Covers (base_of h) x e c b) (sym k.number) v)))))

        each : (past x : History) → Throughout (λ y e. (o : Op) → Covers (base_of h) y e o.clerk (shown_boot h o.clerk o.boot) o.number → T (h.ghost.is_durable o)) past x
            → Throughout (λ y e. (c b n : ℕ) → Covers (base_of h) y e c b n → IsUndurable c b n h.ghost.shown → ⊥) past x
        each past [] t = tt
        each past (e ∷ x) t = (none past e t.0, each (past ++ e ∷ []) x t.1)

    legal-then : IsLegal (base_of h) h.durable.max_objects (place ss)
    legal-then = subst (λ m. IsLegal (base_of h) m (place ss)) (sym go.most) (subst (λ v. IsLegal (record { volume = v; fresh = (base_of h).fresh }) g.durable.max_objects (place ss)) (sym go.origin)
        (legal-by g.origin (base_of g).fresh (base_of h).fresh ss (ids-by g h (s ∷ []) go) g.durable.max_objects (subst (IsLegal (base_of g) g.durable.max_objects) (sym (before.0).events.placed) (before.0).events.legal)))

    more : OneMore (base_of h) h.durable.max_objects ss s
    more = record {
      placeable = subst (ArePlaceable []) go.shown (behind.0).events.placeable;
      was = legal-then;
      legal = subst (λ x. IsLegal (base_of h) h.durable.max_objects (place x)) go.shown (subst (IsLegal (base_of h) h.durable.max_objects) (sym (behind.0).events.placed) (behind.0).events.legal);
      early_before = λ c. (before.1 c).early;
      early = λ c. subst (λ x. (watch c x).early ≡ []) go.shown (behind.1 c).early;
      settled = subst (λ x. Throughout (λ y e. (c b n : ℕ) → Covers (base_of h) y e c b n → IsUndurable c b n x → ⊥) [] (place x)) go.shown
          (subst (Throughout (λ y e. (c b n : ℕ) → Covers (base_of h) y e c b n → IsUndurable c b n h.ghost.shown → ⊥) []) (sym (behind.0).events.placed) settled);
    }

    pub line-tells : TellsAll g → TellsAll h
    line-tells t = record { told = now; fronts = fronts }
      where
        now : LinesTell (base_of h) h.ghost.shown
        now = subst (LinesTell (base_of h)) (sym go.shown) (one-more (base_of h) h.durable.max_objects ss s more (rebased g h (s ∷ []) go t))

        whole : AreLawful (base_of h) h.durable.max_objects h.ghost.shown
        whole = record { placed = (behind.0).events.placeable; history = subst (IsLegal (base_of h) h.durable.max_objects) (sym (behind.0).events.placed) (behind.0).events.legal; fsync = now.covered }

        fronts : FrontsAreLawful (base_of h) h.durable.max_objects h.ghost.shown
        fronts front rest q = elim (front-or front rest ss s (q ∙ go.shown)) [
          | inl r ↦ rebased-fronts g h (s ∷ []) go t front r.0 r.1
          | inr r ↦ subst (AreLawful (base_of h) h.durable.max_objects) (go.shown ∙ sym r) whole
        ]
