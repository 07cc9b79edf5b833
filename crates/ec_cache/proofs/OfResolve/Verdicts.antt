-- What the verdicts say of a call on a volume that the cache shows.
use Rattle.std.proofs.Common.{◌≡◌, ◌∙◌, refl, sym, ap, subst, inl, inr, ◌⊎◌, arith, ℕ, T, Bool, true, false, not, ◌==◌, ◌&&◌, ◌||◌, List, [], ◌∷◌, ◌++◌, Option, Some, None, append_assoc}
use Rattle.std.specs.Prelude.{◌-◌, is_none, length, take}
use Rattle.std.proofs.lemmas.Bool.{true≢false}
use Rattle.std.proofs.lemmas.Bool.Decides.{nat_tests}
use Rattle.ec_base.specs.Tables.{first, or_else}
use Rattle.ec_base.specs.declared.ids.Hold.{Hold}
use Rattle.ec_base.specs.declared.ids.Hold.TheVariants.{Read, Write}
use Rattle.ec_volume.specs.Image.{is_id}
use Rattle.ec_volume.specs.Update.{member, operands, root, is_make}
use Rattle.ec_volume.specs.Volume.{Images}
use Rattle.ec_volume.specs.declared.image.Kind.{Kind}
use Rattle.ec_volume.specs.declared.update.Update.{Update}
use Rattle.ec_volume.specs.declared.update.Update.TheVariants.{Make}
use Rattle.ec_plain.specs.Plain.{issues, plain, is_sync}
use Rattle.ec_plain.specs.declared.call.Call.{Call}
use Rattle.ec_plain.specs.declared.call.Call.TheVariants as call
use Rattle.ec_plain.specs.declared.call.Outcome.{Outcome}
use Rattle.ec_cache.specs.Cache.{holds, images_held}
use Rattle.ec_cache.specs.declared.state.CacheState.{CacheState}
use Rattle.ec_cache.specs.OfReport.Report.{Owed, due, objects}
use Rattle.ec_cache.specs.OfResolve.Agreement.{Agree, Shows, IsFor, IsFirst, is_unread, is_unwritten, AreTouchedBy, AreTouched, AllIsRead, IsOwed, IsClear, IsUnwritten, IsNeeded, IsWithoutId, IsReady}
use Rattle.ec_cache.specs.OfResolve.Resolve.{outcome, lacks_id, seen, first_unread, asked, first_unwritten, lacking, met, reported, evaluate}
use Rattle.ec_cache.specs.declared.resolve.verdict.Verdict.{Verdict}
use Rattle.ec_cache.specs.declared.resolve.verdict.Verdict.TheVariants.{Need, Lost, NeedIds, Done}
use Rattle.ec_cache.proofs.OfResolve.Agreeing.{plain-agrees, plain-touches_on}
use Rattle.ec_cache.proofs.OfResolve.Making.{is_made, either-plain, front-of}
use Rattle.ec_cache.proofs.OfResolve.Members.{member-self}
use Rattle.ec_cache.proofs.OfResolve.Settled.{first-none, either}

-- The first that passes a test.

none-is : {A : Type 0} (x : ℕ) → ◌≡◌ {A = Option ℕ} (Some x) None → A
none-is x e = absurd (apart e)
  where
    apart : ◌≡◌ {A = Option ℕ} (Some x) None → ⊥
    apart e = cc

first-some : (p : ℕ → Bool) (xs : List ℕ) (x : ℕ) → first p xs ≡ Some x → IsFirst p x xs
first-some p [] x e = none-is x (sym e)
first-some p (y ∷ xs) x e = go (p y) refl e (first-some p xs x)
  where
    before-more : (f : IsFirst p x xs) → p y ≡ false → (z : ℕ) (b : Bool) → (z == y) ≡ b → T (b || member z f.front) → p z ≡ false
    before-more f q z true i m = let same : z ≡ y = grind (arith, nat_tests, i) in ap p same ∙ q
    before-more f q z false i m = f.before z m

    go : (b : Bool) → p y ≡ b → elim b as (λ _. Option ℕ) [ true ↦ Some y | false ↦ first p xs ] ≡ Some x → (first p xs ≡ Some x → IsFirst p x xs) → IsFirst p x (y ∷ xs)
    go true q e r =
        let same : y ≡ x = cc in
        record { front = []; back = xs; whole = ap (λ z. z ∷ xs) same; passes = ap p (sym same) ∙ q; before = λ z m. absurd m }
    go false q e r =
        let f : IsFirst p x xs = r e in
        record {
          front = y ∷ f.front;
          back = f.back;
          whole = ap (λ zs. y ∷ zs) f.whole;
          passes = f.passes;
          before = λ z m. before-more f q z (z == y) refl m;
        }

-- The same in a list that goes on.
first-on : (p : ℕ → Bool) (x : ℕ) (xs ys : List ℕ) → IsFirst p x xs → IsFirst p x (xs ++ ys)
first-on p x xs ys f = record {
  front = f.front;
  back = f.back ++ ys;
  whole = ap (λ zs. zs ++ ys) f.whole ∙ append_assoc f.front (x ∷ f.back) ys;
  passes = f.passes;
  before = f.before;
}

is-true : (b : Bool) → not b ≡ false → T b
is-true true e = tt
is-true false e = absurd (true≢false e)

-- Updates that make an object, and ids.

no-make : (fresh : Option ℕ) (u : Option Update) → is_made u ≡ false → lacks_id fresh u ≡ false
no-make fresh None e = refl
no-make fresh (Some u) e = ap (λ b. b && is_none fresh) e

has-id : (y : ℕ) (u : Option Update) → lacks_id (Some y) u ≡ false
has-id y None = refl
has-id y (Some u) = go (is_make u)
  where
    go : (b : Bool) → (b && false) ≡ false
    go true = refl
    go false = refl

-- for each id an object is made with it in this directory
abbrev Makes : Images → Call → ℕ → List ℕ → Kind → List ℕ → Type 0
Makes w cl d n g os = (x : ℕ) → plain w cl x ≡ issues (Make d n x g) (os ++ x ∷ [])

-- There is no id, and the call would make an object on both volumes.
record IsIdless (v w : Images) (cl : Call) (fresh : Option ℕ) : Type 0 where
  none : fresh ≡ None
  dir : ℕ
  name : List ℕ
  kind : Kind
  read : List ℕ
  here : Makes v cl dir name kind read
  there : Makes w cl dir name kind read
  rooted : T (member root read)

abbrev zero_id : Option ℕ → ℕ
zero_id fresh = or_else 0 fresh

-- What the call comes to is the same on both volumes, and lacks no id; or it is idless.
abbrev Stands : Images → Images → Call → Option ℕ → ℕ → Type 0
Stands v w cl fresh id = ((plain w cl id ≡ plain v cl (zero_id fresh)) × (lacks_id fresh (plain v cl (zero_id fresh)).update ≡ false)) ⊎ IsIdless v w cl fresh

-- on one volume
stands-here : (v : Images) (cl : Call) (fresh : Option ℕ) (id : ℕ) → IsFor fresh id → Stands v v cl fresh id
stands-here v cl (Some y) id f = inl (ap (plain v cl) (f y refl), has-id y (plain v cl y).update)
stands-here v cl None id f = elim (either-plain v cl) [
  | inl e ↦ inl (e.0 id 0, no-make None (plain v cl 0).update (e.1 0).none)
  | inr m ↦ inr (record { none = refl; dir = m.dir; name = m.name; kind = m.kind; read = m.read; here = m.comes; there = m.comes; rooted = m.rooted })
]

same-make : (d e : ℕ) (n l : List ℕ) (g h : Kind) (os ps : List ℕ) (x : ℕ) → issues (Make d n x g) (os ++ x ∷ []) ≡ issues (Make e l x h) (ps ++ x ∷ []) → (y : ℕ) → issues (Make d n y g) (os ++ y ∷ []) ≡ issues (Make e l y h) (ps ++ y ∷ [])
same-make d e n l g h os ps x s y =
    let updates : ◌≡◌ {A = Option Update} (Some (Make d n x g)) (Some (Make e l x h)) = ap (λ o. o.update) s in
    let reads : os ++ x ∷ [] ≡ ps ++ x ∷ [] = ap (λ o. o.touched) s in
    let dirs : d ≡ e = cc in
    let names : n ≡ l = cc in
    let kinds : g ≡ h = cc in
    let same : os ≡ ps = sym (front-of os x) ∙ ap (λ zs. take (length zs - 1) zs) reads ∙ front-of ps x in
    rw (dirs, names, kinds, same) refl

-- a call that makes an object on a volume makes it on each that agrees with what it reads
makes-there : (v w : Images) (cl : Call) (d : ℕ) (n : List ℕ) (g : Kind) (os : List ℕ) → Makes v cl d n g os → T (member root os) → Agree v w os → Makes w cl d n g os
makes-there v w cl d n g os m r a = elim (either-plain w cl) [
  | inl e ↦ absurd (true≢false (sym (ap (λ o. is_made o.update) at-root) ∙ (e.1 root).none))
  | inr k ↦ λ x. k.comes x ∙ same-make k.dir d k.name n k.kind g k.read os root (sym (k.comes root) ∙ at-root) x
]
  where
    is-there : (o : ℕ) → T (member o (os ++ root ∷ [])) → T (member o os)
    is-there o t = elim (in-either o os (root ∷ []) t) [
      | inl i ↦ i
      | inr i ↦ subst (λ z. T (member z os)) (sym (one o i)) r
    ]
      where
        in-either : (o : ℕ) (xs ys : List ℕ) → T (member o (xs ++ ys)) → T (member o xs) ⊎ T (member o ys)
        in-either o [] ys t = inr t
        in-either o (x ∷ xs) ys t = go (o == x) t (in-either o xs ys)
          where
            go : (b : Bool) → T (b || member o (xs ++ ys)) → (T (member o (xs ++ ys)) → T (member o xs) ⊎ T (member o ys)) → T (b || member o xs) ⊎ T (member o ys)
            go true t h = inl tt
            go false t h = h t

        one : (o : ℕ) → T (member o (root ∷ [])) → o ≡ root
        one o i = grind (arith, nat_tests, i)

    at-root : plain w cl root ≡ issues (Make d n root g) (os ++ root ∷ [])
    at-root = plain-agrees v w cl root (λ o t. a o (is-there o (subst (λ z. T (member o z.touched)) (m root) t))) ∙ m root

-- What is seen of an idless call is what it read.
seen-idless : (v w : Images) (cl : Call) (fresh : Option ℕ) (m : IsIdless v w cl fresh) → seen (lacks_id fresh (plain v cl (zero_id fresh)).update) (plain v cl (zero_id fresh)).touched ≡ m.read
seen-idless v w cl fresh m =
    ap (λ o. seen (lacks_id fresh o.update) o.touched) (m.here (zero_id fresh))
    ∙ ap (λ z. seen (lacks_id z (Some (Make m.dir m.name (zero_id fresh) m.kind))) (m.read ++ zero_id fresh ∷ [])) m.none
    ∙ front-of m.read (zero_id fresh)

stands-there : (v w : Images) (cl : Call) (fresh : Option ℕ) (id : ℕ) → IsFor fresh id → Agree v w (seen (lacks_id fresh (plain v cl (zero_id fresh)).update) (plain v cl (zero_id fresh)).touched) → Stands v w cl fresh id
stands-there v w cl fresh id f a = elim (stands-here v cl fresh id f) [
  | inl s ↦
      let agree : Agree v w (plain v cl id).touched = λ o t. a o (subst (λ b. T (member o (seen b (plain v cl (zero_id fresh)).touched))) (sym s.1) (subst (λ z. T (member o z.touched)) s.0 t)) in
      inl (plain-agrees v w cl id agree ∙ s.0, s.1)
  | inr m ↦
      let reads : seen (lacks_id fresh (plain v cl (zero_id fresh)).update) (plain v cl (zero_id fresh)).touched ≡ m.read = seen-idless v v cl fresh m in
      inr (record { none = m.none; dir = m.dir; name = m.name; kind = m.kind; read = m.read; here = m.here; there = makes-there v w cl m.dir m.name m.kind m.read m.here m.rooted (subst (Agree v w) reads a); rooted = m.rooted })
]

idless-lacks : (v w : Images) (cl : Call) (fresh : Option ℕ) (m : IsIdless v w cl fresh) → lacks_id fresh (plain v cl (zero_id fresh)).update ≡ true
idless-lacks v w cl fresh m = ap (λ o. lacks_id fresh o.update) (m.here (zero_id fresh)) ∙ ap (λ z. lacks_id z (Some (Make m.dir m.name (zero_id fresh) m.kind))) m.none

touched-by : (fresh : Option ℕ) (id : ℕ) (out : Outcome) (xs : List ℕ) (b : Bool) → lacks_id fresh out.update ≡ b → AreTouchedBy id out xs b → AreTouched fresh id out xs
touched-by fresh id out xs b e t = subst (AreTouchedBy id out xs) (sym e) t

-- a sync makes no object
makes-no-sync : (v : Images) (c : Call) (d : ℕ) (n : List ℕ) (g : Kind) (os : List ℕ) → Makes v c d n g os → is_sync c ≡ false
makes-no-sync v call.Sync d n g os m = absurd (true≢false (sym (ap (λ o. is_made o.update) (m 0))))
makes-no-sync v (call.Mkdir p) d n g os m = refl
makes-no-sync v (call.Create p) d n g os m = refl
makes-no-sync v (call.Write p at bytes) d n g os m = refl
makes-no-sync v (call.SetLen p len) d n g os m = refl
makes-no-sync v (call.Read p at count) d n g os m = refl
makes-no-sync v (call.Chmod p mode) d n g os m = refl
makes-no-sync v (call.Touch p stamp) d n g os m = refl
makes-no-sync v (call.Stat p) d n g os m = refl
makes-no-sync v (call.List p) d n g os m = refl
makes-no-sync v (call.Remove p) d n g os m = refl
makes-no-sync v (call.Rmdir p) d n g os m = refl
makes-no-sync v (call.Rename p q) d n g os m = refl
makes-no-sync v (call.Fsync p) d n g os m = refl
makes-no-sync v (call.Forder ps) d n g os m = refl
makes-no-sync v (call.Chown p owner) d n g os m = refl

module _ (k : CacheState) (owed : Owed) (cl : Call) (fresh : Option ℕ) where
  abbrev out : Outcome
  out = outcome k cl fresh

  abbrev idless : Bool
  idless = lacks_id fresh out.update

  abbrev xs : List ℕ
  xs = seen idless out.touched

  all-read : first_unread k fresh xs ≡ None → (x : ℕ) → T (member x xs) → is_unread k fresh x ≡ false
  all-read e = first-none (is_unread k fresh) xs e

  module _ (v : Images) (s : Shows k fresh v) (id : ℕ) (f : IsFor fresh id) where
    abbrev there : Outcome
    there = plain v cl id

    alike : (x : ℕ) → is_unread k fresh x ≡ false → v x ≡ images_held k x
    alike x e = elim (either (is_id x fresh) (holds x Read k) e) [ inl t ↦ s.unmade x t | inr t ↦ s.images x t ]

    stands : first_unread k fresh xs ≡ None → Stands (images_held k) v cl fresh id
    stands e = stands-there (images_held k) v cl fresh id f (λ o t. alike o (all-read e o t))

    read : first_unread k fresh xs ≡ None → AllIsRead k fresh id there xs
    read e = record {
      touched = elim (stands e) [
        | inl q ↦ touched-by fresh id there xs false (ap (λ o. lacks_id fresh o.update) q.0 ∙ q.1) (ap (λ o. o.touched) q.0 ∙ ap (λ b. seen b out.touched) (sym q.1))
        | inr m ↦ touched-by fresh id there xs true (ap (λ o. lacks_id fresh o.update) (m.there id) ∙ ap (λ z. lacks_id z (Some (Make m.dir m.name id m.kind))) m.none)
            (ap (λ o. o.touched) (m.there id) ∙ ap (λ os. os ++ id ∷ []) (sym (seen-idless (images_held k) v cl fresh m)))
      ];
      held = all-read e;
    }

    clear : first_unread k fresh xs ≡ None → due (met owed cl xs) owed ≡ [] → IsClear k owed cl fresh id there
    clear e n = record { touched = xs; read = read e; unowed = n }

    -- what isn't held is touched on the volume too
    unread : (x : ℕ) → IsFirst (is_unread k fresh) x xs → IsFirst (is_unread k fresh) x there.touched
    unread x g =
        let here = first-here (stands-here (images_held k) cl fresh id f) in
        let on = plain-touches_on (images_held k) v cl id here.front x here.back here.whole (λ y m. alike y (here.before y m)) in
        record { front = here.front; back = on.0; whole = on.1; passes = here.passes; before = here.before }
      where
        first-here : Stands (images_held k) (images_held k) cl fresh id → IsFirst (is_unread k fresh) x (plain (images_held k) cl id).touched
        first-here (inl q) = subst (IsFirst (is_unread k fresh) x) (ap (λ b. seen b out.touched) q.1 ∙ sym (ap (λ o. o.touched) q.0)) g
        first-here (inr m) =
            subst (IsFirst (is_unread k fresh) x) (sym (ap (λ o. o.touched) (m.there id)))
            (first-on (is_unread k fresh) x m.read (id ∷ []) (subst (IsFirst (is_unread k fresh) x) (seen-idless (images_held k) (images_held k) cl fresh m) g))

    -- the first operand that isn't held for writing
    unwritten : first_unread k fresh xs ≡ None → due (met owed cl xs) owed ≡ [] → (x : ℕ) (u : Option Update) → out.update ≡ u → first_unwritten k idless u ≡ Some x → IsUnwritten k owed cl fresh id there x
    unwritten e n x None q p = none-is x (sym p)
    unwritten e n x (Some u) q p = elim (stands e) [
      | inl w ↦ record {
        clear = clear e n;
        update = u;
        issued = ap (λ o. o.update) w.0 ∙ q;
        first = first-some (is_unwritten k) (operands u) x (ap (λ b. first (is_unwritten k) (asked b (operands u))) (sym w.1) ∙ p);
      }
      | inr m ↦ record {
        clear = clear e n;
        update = Make m.dir m.name id m.kind;
        issued = ap (λ o. o.update) (m.there id);
        first = first-on (is_unwritten k) x (m.dir ∷ []) (id ∷ []) (first-some (is_unwritten k) (m.dir ∷ []) x (dir-first m));
      }
    ]
      where
        dir-first : (m : IsIdless (images_held k) v cl fresh) → first (is_unwritten k) (m.dir ∷ []) ≡ Some x
        dir-first m =
            let same : ◌≡◌ {A = Option Update} (Some u) (Some (Make m.dir m.name (zero_id fresh) m.kind)) = sym q ∙ ap (λ o. o.update) (m.here (zero_id fresh)) in
            let is : u ≡ Make m.dir m.name (zero_id fresh) m.kind = cc in
            sym (ap (λ w. first (is_unwritten k) (asked true (operands w))) is) ∙ ap (λ b. first (is_unwritten k) (asked b (operands u))) (sym (idless-lacks (images_held k) v cl fresh m)) ∙ p

    abbrev Says : Verdict → Type 0
    Says (Need x h) = IsNeeded k owed cl fresh id there x h
    Says (Lost ns ys) = IsOwed k owed cl fresh id there ns ys
    Says (NeedIds ys) = IsWithoutId k owed fresh id there ys
    Says (Done o) = (there ≡ o) × IsReady k owed cl fresh o

    wants : first_unread k fresh xs ≡ None → due (met owed cl xs) owed ≡ [] → first_unwritten k idless out.update ≡ None → idless ≡ true → IsWithoutId k owed fresh id there (seen true out.touched)
    wants e n w i = elim (stands e) [
      | inl q ↦ absurd (true≢false (sym i ∙ q.1))
      | inr m ↦
          let reads : seen true out.touched ≡ m.read = ap (λ b. seen b out.touched) (sym i) ∙ seen-idless (images_held k) v cl fresh m in
          record {
            none = m.none;
            dir = m.dir;
            name = m.name;
            kind = m.kind;
            made = ap (λ o. o.update) (m.there id);
            touched = ap (λ o. o.touched) (m.there id) ∙ ap (λ os. os ++ id ∷ []) (sym reads);
            read = λ x t. held-of m x (all-read e x (subst (λ b. T (member x (seen b out.touched))) (sym i) t));
            written = is-true (holds m.dir Write k) (first-none (is_unwritten k) (m.dir ∷ []) (dir-none m) m.dir (member-self m.dir []));
            unowed = unowed-of m;
          }
    ]
      where
        held-of : (m : IsIdless (images_held k) v cl fresh) (x : ℕ) → is_unread k fresh x ≡ false → T (holds x Read k)
        held-of m x q = is-true (holds x Read k) (sym (ap (λ z. is_unread k z x) m.none) ∙ q)

        dir-none : (m : IsIdless (images_held k) v cl fresh) → first (is_unwritten k) (m.dir ∷ []) ≡ None
        dir-none m =
            sym (ap (λ b. first (is_unwritten k) (asked b (m.dir ∷ zero_id fresh ∷ []))) i)
            ∙ ap (λ u. first_unwritten k idless u) (sym (ap (λ o. o.update) (m.here (zero_id fresh)))) ∙ w

        unowed-of : (m : IsIdless (images_held k) v cl fresh) → due (seen true out.touched) owed ≡ []
        unowed-of m =
            sym (ap (λ b. due (elim b as (λ _. List ℕ) [ true ↦ objects owed | false ↦ xs ]) owed) (makes-no-sync (images_held k) cl m.dir m.name m.kind m.read m.here) ∙ ap (λ b. due (seen b out.touched) owed) i) ∙ n

    done : first_unread k fresh xs ≡ None → due (met owed cl xs) owed ≡ [] → first_unwritten k idless out.update ≡ None → idless ≡ false → (there ≡ out) × IsReady k owed cl fresh out
    done e n w i = (
      elim (stands e) [
        | inl q ↦ q.0
        | inr m ↦ absurd (true≢false (sym (idless-lacks (images_held k) v cl fresh m) ∙ i))
      ],
      ready,
    )
      where
        whole : xs ≡ out.touched
        whole = ap (λ b. seen b out.touched) i

        written-of : (o : Option Update) → first_unwritten k idless o ≡ None → (u : Update) → o ≡ Some u → (x : ℕ) → T (member x (operands u)) → T (holds x Write k)
        written-of o p u q x t =
            is-true (holds x Write k) (first-none (is_unwritten k) (operands u) (ap (λ b. first (is_unwritten k) (asked b (operands u))) (sym i) ∙ ap (first_unwritten k idless) (sym q) ∙ p) x t)

        made-of : (d : ℕ) (n : List ℕ) (x : ℕ) (g : Kind) → out.update ≡ Some (Make d n x g) → fresh ≡ Some x
        made-of d n x g q = by-id fresh refl
          where
            by-id : (z : Option ℕ) → fresh ≡ z → fresh ≡ Some x
            by-id None z = absurd (true≢false (sym (ap (λ u. lacks_id fresh u) q ∙ ap (λ y. lacks_id y (Some (Make d n x g))) z) ∙ i))
            by-id (Some y) z = elim (either-plain (images_held k) cl) [
              | inl c ↦ absurd (true≢false (sym (ap is_made q) ∙ (c.1 (zero_id fresh)).none))
              | inr m ↦
                  let same : ◌≡◌ {A = Option Update} (Some (Make d n x g)) (Some (Make m.dir m.name (zero_id fresh) m.kind)) = sym q ∙ ap (λ o. o.update) (m.comes (zero_id fresh)) in
                  let ids : x ≡ zero_id fresh = cc in
                  z ∙ ap Some (sym (ids ∙ ap zero_id z))
            ]

        ready : IsReady k owed cl fresh out
        ready = record {
          read = λ x t. all-read e x (subst (λ os. T (member x os)) (sym whole) t);
          unowed = ap (λ os. due (met owed cl os) owed) (sym whole) ∙ n;
          written = λ u q x t. written-of out.update w u q x t;
          made = made-of;
        }

    lacks : first_unread k fresh xs ≡ None → due (met owed cl xs) owed ≡ [] → Says (lacking k idless out)
    lacks e n = writes (first_unwritten k idless out.update) refl
      where
        ids : (b : Bool) → idless ≡ b → first_unwritten k idless out.update ≡ None → Says (elim b as (λ _. Verdict) [ true ↦ NeedIds (seen true out.touched) | false ↦ Done out ])
        ids true i w = wants e n w i
        ids false i w = done e n w i

        writes : (r : Option ℕ) → first_unwritten k idless out.update ≡ r → Says (elim r as (λ _. Verdict) [ Some x ↦ Need x Write | None ↦ elim idless as (λ _. Verdict) [ true ↦ NeedIds (seen true out.touched) | false ↦ Done out ] ])
        writes (Some x) w = inr (refl, unwritten e n x out.update refl w)
        writes None w = ids idless refl w

    judges : (r : Option ℕ) → first_unread k fresh xs ≡ r → Says (elim r as (λ _. Verdict) [ Some x ↦ Need x Read | None ↦ or_else (lacking k idless out) (reported (due (met owed cl xs) owed) (met owed cl xs)) ])
    judges (Some x) e = inl (refl, unread x (first-some (is_unread k fresh) xs x e))
    judges None e = reports (due (met owed cl xs) owed) refl
      where
        reports : (ns : List ℕ) → due (met owed cl xs) owed ≡ ns → Says (or_else (lacking k idless out) (reported ns (met owed cl xs)))
        reports [] n = lacks e n
        reports (m ∷ ms) n = record {
          touched = xs;
          read = read e;
          shown = refl;
          reported = sym n;
          some = λ q. some-none q;
        }
          where
            some-none : ◌≡◌ {A = List ℕ} (m ∷ ms) [] → ⊥
            some-none q = cc

    pub says : Says (evaluate k owed cl fresh)
    says = judges (first_unread k fresh xs) refl

-- Verdict by verdict.

pub need-says : (k : CacheState) (owed : Owed) (cl : Call) (fresh : Option ℕ) (x : ℕ) (h : Hold) → evaluate k owed cl fresh ≡ Need x h → (v : Images) → Shows k fresh v → (id : ℕ) → IsFor fresh id → IsNeeded k owed cl fresh id (plain v cl id) x h
need-says k owed cl fresh x h e v s id f = subst (Says k owed cl fresh v s id f) e (says k owed cl fresh v s id f)

pub lost-says : (k : CacheState) (owed : Owed) (cl : Call) (fresh : Option ℕ) (ns ys : List ℕ) → evaluate k owed cl fresh ≡ Lost ns ys → (v : Images) → Shows k fresh v → (id : ℕ) → IsFor fresh id → IsOwed k owed cl fresh id (plain v cl id) ns ys
lost-says k owed cl fresh ns ys e v s id f = subst (Says k owed cl fresh v s id f) e (says k owed cl fresh v s id f)

pub ids-says : (k : CacheState) (owed : Owed) (cl : Call) (fresh : Option ℕ) (ys : List ℕ) → evaluate k owed cl fresh ≡ NeedIds ys → (v : Images) → Shows k fresh v → (id : ℕ) → IsFor fresh id → IsWithoutId k owed fresh id (plain v cl id) ys
ids-says k owed cl fresh ys e v s id f = subst (Says k owed cl fresh v s id f) e (says k owed cl fresh v s id f)

pub done-says : (k : CacheState) (owed : Owed) (cl : Call) (fresh : Option ℕ) (o : Outcome) → evaluate k owed cl fresh ≡ Done o → (v : Images) → Shows k fresh v → (id : ℕ) → IsFor fresh id → plain v cl id ≡ o
done-says k owed cl fresh o e v s id f = (subst (Says k owed cl fresh v s id f) e (says k owed cl fresh v s id f)).0

-- the images held are a volume that is shown
pub done-ready : (k : CacheState) (owed : Owed) (cl : Call) (fresh : Option ℕ) (o : Outcome) → evaluate k owed cl fresh ≡ Done o → IsReady k owed cl fresh o
done-ready k owed cl fresh o e = (subst (Says k owed cl fresh (images_held k) shown (or_else 0 fresh) its) e (says k owed cl fresh (images_held k) shown (or_else 0 fresh) its)).1
  where
    shown : Shows k fresh (images_held k)
    shown = record { images = λ x t. refl; unmade = λ x t. refl }

    its : IsFor fresh (or_else 0 fresh)
    its x q = ap (or_else 0) q
