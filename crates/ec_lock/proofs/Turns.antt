-- From the seats at the steps of one call to what the call says.
use Rattle.std.proofs.Common.{◌≡◌, ℕ, ◌<◌, ◌≤◌, Bool, true, false, cond, List, [], ◌∷◌, length, nat_lt, Option, Some, None, sym, refl, ap, ◌∙◌, subst, arith, eq-eqb, ne_eqb}
use Rattle.std.proofs.lemmas.Bool.{MatchBool-at_true, MatchBool-at_false}
use Rattle.std.proofs.lemmas.Bool.Decides.{nat_tests}
use mathlib.Core.List.{IsPrefix}
use Rattle.atomic_table.specs.Table.{Me, Step, rest}
use Rattle.ec_lock.specs.declared.traced.Held.{Held}
use Rattle.ec_lock.specs.declared.view.Stage.TheVariants.{Idle, Waiting, Holding}
use Rattle.ec_lock.specs.declared.view.View.{View}
use Rattle.ec_lock.specs.Steps.{Member, of}
use Rattle.ec_lock.specs.Told.{at_stage, holding, with_front, tells_note, Got, looked, longer_view}
use Rattle.ec_base.proofs.Options.{some_same}

abbrev M : Type 0 → Type 0 → Type 0
M V S = Me (Option (Held V)) (View V S)

-- `exchange` at a seat that has one slot
pub lies : {A : Type 0} (c : List (ℕ × A)) (a : A) → c ≡ (0, a) ∷ [] → c ≡ (0, a) ∷ rest c
lies c a e = e ∙ ap (λ r. (0, a) ∷ rest r) (sym e)

pub found_there : {A : Type 0} (c : List (ℕ × A)) (a b : A) → c ≡ (0, a) ∷ rest c → c ≡ (0, b) ∷ [] → a ≡ b
found_there {A} c a b e f =
    let x : ℕ × A = (0, a) in
    let y : ℕ × A = (0, b) in
    let pair : x ≡ y = cc (e, f) in
    ap (λ p. p.1) pair

module _ {V S : Type 0} where
  pub both_le : (v w : View V S) → length (longer_view v w).other ≤ length (longer_view v w).front
  both_le v w = go (nat_lt (length v.front) (length w.front)) refl where
    go : (b : Bool) → nat_lt (length v.front) (length w.front) ≡ b → length (cond b v.front w.front) ≤ length (cond b w.front v.front)
    go true e = grind (arith, nat_tests)
    go false e = grind (arith, nat_tests)

  module _ (list : V → List S) (number : S → Option ℕ) (floor : List S → ℕ) (since : V → V → Type 0) where
    pub served : (st : Step (Option (Held V))) (m0 m1 n : M V S) (found ticket : ℕ) → m1 ≡ m0 → looked list number floor since st m1 found n → m0.0.stage ≡ Waiting ticket → found ≡ ticket → Got list number floor since ticket m0 n
    served st m0 m1 n found ticket same told waits hit = MatchBool-at_true (Got list number floor since ticket m0 n) (n ≡ m0) (eq-eqb found ticket hit) (subst (λ m. looked list number floor since st m found n) same told ticket waits)

    pub unserved : (st : Step (Option (Held V))) (m0 m1 n : M V S) (found ticket : ℕ) → m1 ≡ m0 → looked list number floor since st m1 found n → m0.0.stage ≡ Waiting ticket → ¬ (found ≡ ticket) → n ≡ m0
    unserved st m0 m1 n found ticket same told waits miss = MatchBool-at_false (Got list number floor since ticket m0 n) (n ≡ m0) (ne_eqb found ticket miss) (subst (λ m. looked list number floor since st m found n) same told ticket waits)

    pub got_out : (t : ℕ) (m0 m1 m2 : M V S) → m1 ≡ (at_stage m0.0 (Waiting t), []) → Got list number floor since t m1 m2 → (h : Held V) × (m2.1 ≡ (0, Some h) ∷ [])
    got_out t m0 m1 m2 e got = (got.0, ap (λ m. m.1) got.1 ∙ ap (λ m. (0, Some got.0) ∷ m.1) e)

    -- what comes out of the slot was told at the look
    pub got_drawn : (t : ℕ) (m0 m1 m2 : M V S) (a : Option (Held V)) (h : Held V) → m1 ≡ (at_stage m0.0 (Waiting t), []) → Got list number floor since t m1 m2 → m2.1 ≡ (0, a) ∷ rest m2.1 → a ≡ Some h
        → (k : ℕ) → Member k m0.0.numbers → k < h.next
    got_drawn t m0 m1 m2 a h e got there is k m =
        let lies_there : m2.1 ≡ (0, Some got.0) ∷ [] = ap (λ m. m.1) got.1 ∙ ap (λ m. (0, Some got.0) ∷ m.1) e in
        let same : got.0 ≡ h = some_same got.0 h (sym (found_there m2.1 a (Some got.0) there lies_there) ∙ is) in
        let below : k < got.0.next = got.8 k (subst (λ x. Member k x.0.numbers) (sym e) m) in
        subst (λ x. k < x.next) same below

  -- the value lies in the slot again, and its list is noted
  pub put_back : (list : V → List S) (st : Step (Option (Held V))) (m0 m1 m2 : M V S) (held : Held V) (x : ℕ) → m0.1 ≡ (0, None) ∷ [] → m1 ≡ (m0.0, (0, Some held) ∷ rest m0.1) → tells_note list st m1 x m2
      → m2 ≡ (with_front m0.0 (list held.value), (0, Some held) ∷ [])
  put_back list st m0 m1 m2 held x out e told =
      let lies_there : m1.1 ≡ (0, Some held) ∷ [] = ap (λ m. m.1) e ∙ ap (λ c. (0, Some held) ∷ rest c) out in
      let view : m1.0 ≡ m0.0 = ap (λ m. m.0) e in
      told held lies_there ∙ (λ i. (with_front (view i) (list held.value), lies_there i))

  pub left : (v : View V S) (l : List S) (m2 m3 : M V S) (c : List (ℕ × Option (Held V))) → m2 ≡ (with_front v l, c) → m3 ≡ (at_stage m2.0 Idle, []) → m3 ≡ (at_stage (with_front v l) Idle, [])
  left v l m2 m3 c e f = f ∙ ap (λ m. (at_stage m.0 Idle, [])) e
