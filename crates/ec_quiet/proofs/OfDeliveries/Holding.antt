-- The holders that conflict with a want: each has its token as the list says, and each session stands there once.
use Rattle.std.proofs.Common.{◌≡◌, refl, sym, ap, ◌∙◌, subst, arith, ℕ, T, Bool, true, false, not, ◌&&◌, cond, List, [], ◌∷◌, ◌++◌, filter}
use Rattle.std.specs.Prelude.{Option, None, Some, ◌==◌, ⊤}
use Rattle.std.specs.Ordering.{nat_cmp, is_lt}
use Rattle.std.specs.declared.cmp.Ordering.TheVariants.{Less}
use Rattle.std.specs.Cmp.{nat_cmp_total}
use Rattle.std.specs.FinMap.{find, is_sorted}
use Rattle.std.specs.FinMap.Entries.{below_all}
use Rattle.std.proofs.lemmas.Bool.{eq-eqb, eqb-true}
use Rattle.std.proofs.lemmas.Bool.Decides.{nat_tests}
use Rattle.std.proofs.lemmas.Cmp.{tied_itself}
use Rattle.ec_base.specs.SortedLaws.{first, second, turned}
use Rattle.ec_base.specs.Holds.{clash}
use Rattle.ec_base.specs.Tables.{Table}
use Rattle.ec_base.specs.declared.ids.Hold.{Hold}
use Rattle.ec_history.specs.History.{Each}
use Rattle.ec_sessions.specs.declared.slot.Slot.{Slot}
use Rattle.ec_sessions.specs.OfTokens.Tokens.{Holder, Row, Tokens, conflicts, holders, is_conflict, token}
use Rattle.ec_sessions.specs.OfTokens.SoundTokens.{IsSound}
use Rattle.ec_sessions.specs.declared.tokens.token.Token.{Token}
use Rattle.ec_durable.specs.Durable.{slot}
use Rattle.ec_protocol.specs.declared.clerk.Clerk.{Clerk}
use Rattle.ec_protocol.specs.declared.server.Server.{Server}
use Rattle.ec_quiet.specs.Facts.{IsOrderly, session_clerk}
use Rattle.ec_machine_laws.proofs.Rows.{later-row, own-row}
use Rattle.ec_base.proofs.Bools.{lower}

abbrev Stands : Tokens → ℕ → Holder → Type 0
Stands ts x g = token ts g.0 x ≡ Some (record { hold = g.1; number = g.2 })

-- the sessions rise
abbrev pub AreRising : List Holder → Type 0
AreRising [] = ⊤
AreRising (g ∷ gs) = Each (λ (f : Holder). nat_cmp g.0 f.0 ≡ Less) gs × AreRising gs

after : (m : ℕ) (ts : Tokens) (x : ℕ) → T (below_all nat_cmp m ts) → Each (λ (g : Holder). nat_cmp m g.0 ≡ Less) (holders ts x)
after m [] x t = tt
after m (r ∷ rs) x t = go (find nat_cmp x r.1) (after m rs x (second (is_lt (nat_cmp m r.0)) (below_all nat_cmp m rs) t))
  where
    go : (o : Option Token) → Each (λ (g : Holder). nat_cmp m g.0 ≡ Less) (holders rs x) → Each (λ (g : Holder). nat_cmp m g.0 ≡ Less) (Rattle.ec_sessions.specs.OfTokens.Tokens.held_by r.0 o (holders rs x))
    go None e = e
    go (Some k) e = (lower (nat_cmp m r.0) (first (is_lt (nat_cmp m r.0)) (below_all nat_cmp m rs) t), e)

pub all-rise : (ts : Tokens) (x : ℕ) → T (is_sorted nat_cmp ts) → AreRising (holders ts x)
all-rise [] x s = tt
all-rise (r ∷ rs) x s = go (find nat_cmp x r.1) (after r.0 rs x (first (below_all nat_cmp r.0 rs) (is_sorted nat_cmp rs) s)) (all-rise rs x (second (below_all nat_cmp r.0 rs) (is_sorted nat_cmp rs) s))
  where
    go : (o : Option Token) → Each (λ (g : Holder). nat_cmp r.0 g.0 ≡ Less) (holders rs x) → AreRising (holders rs x) → AreRising (Rattle.ec_sessions.specs.OfTokens.Tokens.held_by r.0 o (holders rs x))
    go None a e = e
    go (Some k) a e = (a, e)

pub all-stand : (ts : Tokens) (x : ℕ) → T (is_sorted nat_cmp ts) → Each (Stands ts x) (holders ts x)
all-stand [] x s = tt
all-stand (r ∷ rs) x s = go (find nat_cmp x r.1) refl (later (holders rs x) (after r.0 rs x (first (below_all nat_cmp r.0 rs) (is_sorted nat_cmp rs) s)) (all-stand rs x (second (below_all nat_cmp r.0 rs) (is_sorted nat_cmp rs) s)))
  where
    later : (gs : List Holder) → Each (λ (g : Holder). nat_cmp r.0 g.0 ≡ Less) gs → Each (Stands rs x) gs → Each (Stands (r ∷ rs) x) gs
    later [] a e = tt
    later (g ∷ gs) a e = (later-row g.0 r rs x (turned nat_cmp nat_cmp_total r.0 g.0 Less a.0) ∙ e.0, later gs a.1 e.1)

    go : (o : Option Token) → find nat_cmp x r.1 ≡ o → Each (Stands (r ∷ rs) x) (holders rs x) → Each (Stands (r ∷ rs) x) (Rattle.ec_sessions.specs.OfTokens.Tokens.held_by r.0 o (holders rs x))
    go None f e = e
    go (Some k) f e = (own-row r.0 r rs x (tied_itself nat_cmp_total r.0) ∙ f, e)

-- Those that conflict.

part-stands : (P : Holder → Type 0) (p : Holder → Bool) (gs : List Holder) → Each P gs → Each (λ g. P g × (p g ≡ true)) (filter p gs)
part-stands P p [] e = tt
part-stands P p (g ∷ gs) e = go (p g) refl (part-stands P p gs e.1)
  where
    go : (b : Bool) → p g ≡ b → Each (λ g. P g × (p g ≡ true)) (filter p gs) → Each (λ g. P g × (p g ≡ true)) (cond b (g ∷ filter p gs) (filter p gs))
    go true q r = ((e.0, q), r)
    go false q r = r

part-each : (P : Holder → Type 0) (p : Holder → Bool) (gs : List Holder) → Each P gs → Each P (filter p gs)
part-each P p [] e = tt
part-each P p (g ∷ gs) e = go (p g) (part-each P p gs e.1)
  where
    go : (b : Bool) → Each P (filter p gs) → Each P (cond b (g ∷ filter p gs) (filter p gs))
    go true r = (e.0, r)
    go false r = r

part-rises : (p : Holder → Bool) (gs : List Holder) → AreRising gs → AreRising (filter p gs)
part-rises p [] e = tt
part-rises p (g ∷ gs) e = go (p g) (part-rises p gs e.1)
  where
    go : (b : Bool) → AreRising (filter p gs) → AreRising (cond b (g ∷ filter p gs) (filter p gs))
    go true r = (part-each (λ (f : Holder). nat_cmp g.0 f.0 ≡ Less) p gs e.0, r)
    go false r = r

-- one of a list, in its place
each-amid : (P : Holder → Type 0) (bs : List Holder) (r : Holder) (rs : List Holder) → Each P (bs ++ r ∷ rs) → P r
each-amid P [] r rs e = e.0
each-amid P (b ∷ bs) r rs e = each-amid P bs r rs e.1

each-front : (P : Holder → Type 0) (bs cs : List Holder) → Each P (bs ++ cs) → Each P bs
each-front P [] cs e = tt
each-front P (b ∷ bs) cs e = (e.0, each-front P bs cs e.1)

rise-amid : (bs : List Holder) (r : Holder) (rs : List Holder) → AreRising (bs ++ r ∷ rs) → Each (λ (b : Holder). nat_cmp b.0 r.0 ≡ Less) bs
rise-amid [] r rs e = tt
rise-amid (b ∷ bs) r rs e = (each-amid (λ (f : Holder). nat_cmp b.0 f.0 ≡ Less) bs r rs e.0, rise-amid bs r rs e.1)

-- What is known of the holder r, before which bs stand.
pub record IsConflict (ts : Tokens) (s x : ℕ) (h : Hold) (r : Holder) (bs : List Holder) : Type 0 where
  pub token_is : token ts r.0 x ≡ Some (record { hold = r.1; number = r.2 })
  pub other : (r.0 == s) ≡ false
  pub clashes : clash r.1 h ≡ true
  -- the holders before it are others, which have their tokens too
  pub before : Each (λ (b : Holder). ((b.0 == r.0) ≡ false) × (token ts b.0 x ≡ Some (record { hold = b.1; number = b.2 }))) bs

pub conflict-is : (ts : Tokens) (s x : ℕ) (h : Hold) (r : Holder) (bs rs : List Holder) → IsSound ts → conflicts ts s x h ≡ bs ++ r ∷ rs → IsConflict ts s x h r bs
conflict-is ts s x h r bs rs sound e = record {
  token_is = all.0;
  other = (parts (r.0 == s) (clash r.1 h) all.1).0;
  clashes = (parts (r.0 == s) (clash r.1 h) all.1).1;
  before = both bs (rise-amid bs r rs (subst AreRising e (part-rises (is_conflict s h) (holders ts x) (all-rise ts x sound.rising)))) (each-front (Stands ts x) bs (r ∷ rs) (subst (Each (Stands ts x)) e (part-each (Stands ts x) (is_conflict s h) (holders ts x) (all-stand ts x sound.rising))));
}
  where
    all : Stands ts x r × (is_conflict s h r ≡ true)
    all = each-amid (λ g. Stands ts x g × (is_conflict s h g ≡ true)) bs r rs
        (subst (Each (λ g. Stands ts x g × (is_conflict s h g ≡ true))) e (part-stands (Stands ts x) (is_conflict s h) (holders ts x) (all-stand ts x sound.rising)))

    parts : (a b : Bool) → (not a && b) ≡ true → (a ≡ false) × (b ≡ true)
    parts true b f = absurd (grind (arith, f))
    parts false b f = (refl, f)

    differ : (a b : ℕ) → nat_cmp a b ≡ Less → (a == b) ≡ false
    differ a b l = grind (arith, nat_tests)

    both : (gs : List Holder) → Each (λ (b : Holder). nat_cmp b.0 r.0 ≡ Less) gs → Each (Stands ts x) gs → Each (λ (b : Holder). ((b.0 == r.0) ≡ false) × Stands ts x b) gs
    both [] a t = tt
    both (g ∷ gs) a t = ((differ g.0 r.0 a.0, t.0), both gs a.1 t.1)

-- The clerk of a session that has a token.
pub record IsHolderOf (v : Server) (s : ℕ) : Type 0 where
  pub slot_is : Slot
  pub there : slot v.durable (session_clerk v s) ≡ Some slot_is
  pub session : slot_is.session ≡ s
  pub is_open : slot_is.is_open ≡ true

pub holder-of : (v : Server) (clerks : Table Clerk) (s x : ℕ) (t : Token) → IsOrderly v clerks → token v.tokens s x ≡ Some t → IsHolderOf v s
holder-of v clerks s x t o e =
    let h = o.holders s x t e in
    record { slot_is = h.1; there = ap (slot v.durable) (ap (session_clerk v) (sym h.3) ∙ o.own h.0 h.1 h.2) ∙ h.2; session = h.3; is_open = h.4 }

pub same-slot : (a b : Slot) → ◌≡◌ {A = Option Slot} (Some a) (Some b) → a ≡ b
same-slot a b e = cc

-- sessions of one clerk are the same
pub clerks-differ : (v : Server) (s t : ℕ) → IsHolderOf v s → IsHolderOf v t → (s == t) ≡ false → (session_clerk v s == session_clerk v t) ≡ false
clerks-differ v s t a b n = go (session_clerk v s == session_clerk v t) refl
  where
    go : (z : Bool) → (session_clerk v s == session_clerk v t) ≡ z → z ≡ false
    go false e = refl
    go true e =
        let alike : a.slot_is ≡ b.slot_is = same-slot a.slot_is b.slot_is (sym a.there ∙ ap (slot v.durable) (eqb-true (session_clerk v s) (session_clerk v t) e) ∙ b.there) in
        let one : s ≡ t = sym a.session ∙ ap (λ (z : Slot). z.session) alike ∙ b.session in
        let bad : true ≡ false = sym (eq-eqb s t one) ∙ n in
        absurd (grind (arith, bad))
