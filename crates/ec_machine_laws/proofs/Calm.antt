-- No two holders conflict, and who conflicts with one more.
use Rattle.std.proofs.Common.{◌≡◌, ◌≢◌, refl, sym, ap, subst, ◌∙◌, inl, inr, ◌⊎◌, arith, ℕ, T, Bool, true, false, not, ◌==◌, ◌&&◌, cond, List, [], ◌∷◌, filter, Option, Some, None, Contains}
use Rattle.std.specs.Prelude.{⊤}
use Rattle.std.specs.Ordering.{nat_cmp, eq_by_cmp}
use Rattle.std.specs.FinMap.{find, is_sorted}
use Rattle.std.specs.FinMap.Entries.{below_all}
use Rattle.std.proofs.lemmas.Bool.{true≢false}
use Rattle.std.proofs.lemmas.Bool.Decides.{nat_tests}
use Rattle.ec_base.specs.Holds.{is_free, clash}
use Rattle.ec_base.specs.SortedLaws.{first, second}
use Rattle.ec_base.specs.declared.ids.Hold.{Hold}
use Rattle.ec_base.specs.declared.ids.Hold.TheVariants.{Free, Read, Write}
use Rattle.ec_sessions.specs.OfTokens.Laws.{holder_has}
use Rattle.ec_sessions.specs.OfTokens.Tokens.{Tokens, Holder, row_of, token, mode, held_by, holders, is_conflict, conflicts}
use Rattle.ec_sessions.specs.OfTokens.SoundTokens.{IsSound}
use Rattle.ec_sessions.specs.declared.tokens.token.Token.{Token}
use Rattle.ec_machine_laws.specs.Holding.{IsWriter, AreReaders}
use Rattle.ec_machine_laws.proofs.Rows.{absent}
use Rattle.ec_base.proofs.Options.{none-some}

-- No two holders conflict.

abbrev AreCalm : List Holder → Type 0
AreCalm [] = ⊤
AreCalm (g ∷ gs) = ((f : Holder) → Contains gs f → clash g.1 f.1 ≡ false) × (is_free g.1 ≡ false) × AreCalm gs

-- what the later rows have is what all have
abbrev AreInside : Tokens → Tokens → ℕ → Type 0
AreInside ts rs x = (u : ℕ) (k : Token) → token rs u x ≡ Some k → token ts u x ≡ Some k

calm-from : (ts : Tokens) → IsSound ts → (x : ℕ) (rs : Tokens) → T (is_sorted nat_cmp rs) → AreInside ts rs x → AreCalm (holders rs x)
calm-from ts sound x [] sorted inside = tt
calm-from ts sound x (r ∷ rs) sorted inside = go (find nat_cmp x r.1) refl (calm-from ts sound x rs rest later)
  where
    rest : T (is_sorted nat_cmp rs)
    rest = second (below_all nat_cmp r.0 rs) (is_sorted nat_cmp rs) sorted

    self : eq_by_cmp nat_cmp r.0 r.0 ≡ true
    self = grind (arith, nat_tests)

    -- the first session has no later row
    once : token rs r.0 x ≡ None
    once = ap (λ o. find nat_cmp x (row_of o)) (absent r.0 r.0 rs (omega arith) (first (below_all nat_cmp r.0 rs) (is_sorted nat_cmp rs) sorted))

    equal : (u : ℕ) → eq_by_cmp nat_cmp u r.0 ≡ true → u ≡ r.0
    equal u q = grind (arith, nat_tests, q)

    later : AreInside ts rs x
    later u k e = by (eq_by_cmp nat_cmp u r.0) refl
      where
        by : (b : Bool) → eq_by_cmp nat_cmp u r.0 ≡ b → token ts u x ≡ Some k
        by true q = none-some k (sym once ∙ ap (λ v. token rs v x) (sym (equal u q)) ∙ e)
        by false q = inside u k (ap (λ t. find nat_cmp x (row_of (cond t (Some r.1) (find nat_cmp u rs)))) q ∙ e)

    go : (o : Option Token) → find nat_cmp x r.1 ≡ o → AreCalm (holders rs x) → AreCalm (held_by r.0 o (holders rs x))
    go None q more = more
    go (Some k) q more = (λ f c. calm f c, sound.held r.0 x k own, more)
      where
        own : token ts r.0 x ≡ Some k
        own = inside r.0 k (ap (λ t. find nat_cmp x (row_of (cond t (Some r.1) (find nat_cmp r.0 rs)))) self ∙ q)

        calm : (f : Holder) → Contains (holders rs x) f → clash k.hold f.1 ≡ false
        calm f c =
            let has : token rs f.0 x ≡ Some (record { hold = f.1; number = f.2 }) = holder_has rs x f rest c in
            let differ : r.0 ≢ f.0 = λ e. none-some (record { hold = f.1; number = f.2 }) (sym once ∙ ap (λ v. token rs v x) e ∙ has) in
            sym (ap (λ o. clash (mode o) (mode (token ts f.0 x))) own ∙ ap (λ o. clash k.hold (mode o)) (later f.0 (record { hold = f.1; number = f.2 }) has)) ∙ sound.apart r.0 f.0 x differ

calm : (ts : Tokens) (x : ℕ) → IsSound ts → AreCalm (holders ts x)
calm ts x sound = calm-from ts sound x ts sound.rising (λ u k e. e)

-- One may write, or all read.
shape : (gs : List Holder) → AreCalm gs → IsWriter gs ⊎ AreReaders gs
shape [] c = inr tt
shape (g ∷ gs) c = by g.1 refl (shape gs c.2)
  where
    by : (h : Hold) → g.1 ≡ h → IsWriter gs ⊎ AreReaders gs → IsWriter (g ∷ gs) ⊎ AreReaders (g ∷ gs)
    by Free e more = absurd (true≢false (sym (ap is_free e) ∙ c.1))
    by Read e (inr rs) = inr (e, rs)
    by Read e (inl w) =
        let there : Contains gs (w.0, Write, w.1) = subst (λ zs. Contains zs (w.0, Write, w.1)) (sym w.2) (0, omega arith, refl) in
        absurd (true≢false (sym (ap (λ h. clash h Write) e) ∙ c.0 (w.0, Write, w.1) there))
    by Write e more = alone gs refl
      where
        clashes : (h : Hold) → is_free h ≡ false → clash Write h ≡ true
        clashes Free q = absurd (true≢false q)
        clashes Read q = refl
        clashes Write q = refl

        alone : (fs : List Holder) → gs ≡ fs → IsWriter (g ∷ gs) ⊎ AreReaders (g ∷ gs)
        alone [] q = inl (g.0, g.2, ap (λ zs. g ∷ zs) q ∙ ap (λ h. (g.0, h, g.2) ∷ []) e)
        alone (f ∷ fs) q =
            let first-one : Contains gs f = subst (λ zs. Contains zs f) (sym q) (0, omega arith, refl) in
            let rest-calm : AreCalm (f ∷ fs) = subst AreCalm q c.2 in
            absurd (true≢false (sym (ap (λ h. clash h f.1) e ∙ clashes f.1 rest-calm.1) ∙ c.0 f first-one))

-- Conflicts.

some-readers : (p : Holder → Bool) (gs : List Holder) → AreReaders gs → AreReaders (filter p gs)
some-readers p [] r = tt
some-readers p (g ∷ gs) r = go (p g) (some-readers p gs r.1)
  where
    go : (b : Bool) → AreReaders (filter p gs) → AreReaders (cond b (g ∷ filter p gs) (filter p gs))
    go true more = (r.0, more)
    go false more = more

-- readers don't conflict with a reader
no-readers : (s : ℕ) (gs : List Holder) → AreReaders gs → filter (is_conflict s Read) gs ≡ []
no-readers s [] r = refl
no-readers s (g ∷ gs) r = ap (λ b. cond b (g ∷ filter (is_conflict s Read) gs) (filter (is_conflict s Read) gs)) (calm-one (not (g.0 == s)) (ap (λ h. clash h Read) r.0)) ∙ no-readers s gs r.1
  where
    calm-one : (b : Bool) → clash g.1 Read ≡ false → (b && clash g.1 Read) ≡ false
    calm-one true e = e
    calm-one false e = refl

-- the writer conflicts, or nobody does
some-writer : (p : Holder → Bool) (gs : List Holder) → IsWriter gs → (filter p gs ≡ []) ⊎ IsWriter (filter p gs)
some-writer p gs w = subst (λ zs. (filter p zs ≡ []) ⊎ IsWriter (filter p zs)) (sym w.2) (go (p (w.0, Write, w.1)))
  where
    go : (b : Bool) → (cond {A = List Holder} b ((w.0, Write, w.1) ∷ []) [] ≡ []) ⊎ IsWriter (cond {A = List Holder} b ((w.0, Write, w.1) ∷ []) [])
    go true = inr (w.0, w.1, refl)
    go false = inl refl

pub reader-conflicts : (ts : Tokens) (s x : ℕ) → IsSound ts → (conflicts ts s x Read ≡ []) ⊎ IsWriter (conflicts ts s x Read)
reader-conflicts ts s x sound = elim (shape (holders ts x) (calm ts x sound)) [
  | inl w ↦ some-writer (is_conflict s Read) (holders ts x) w
  | inr r ↦ inl (no-readers s (holders ts x) r)
]

pub writer-conflicts : (ts : Tokens) (s x : ℕ) → IsSound ts → AreReaders (conflicts ts s x Write) ⊎ IsWriter (conflicts ts s x Write)
writer-conflicts ts s x sound = elim (shape (holders ts x) (calm ts x sound)) [
  | inl w ↦ elim (some-writer (is_conflict s Write) (holders ts x) w) [ inl e ↦ inl (subst AreReaders (sym e) tt) | inr v ↦ inr v ]
  | inr r ↦ inl (some-readers (is_conflict s Write) (holders ts x) r)
]
