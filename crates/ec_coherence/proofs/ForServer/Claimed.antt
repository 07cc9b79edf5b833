-- A session claims its tokens.
use Rattle.std.proofs.Common.{◌≡◌, ◌≢◌, refl, sym, ap, subst, ◌∙◌, inl, inr, arith, ℕ, Bool, true, false, not, ◌&&◌, ◌||◌, cond, T, ◌≤◌, ◌<◌, List, [], ◌∷◌}
use Rattle.std.specs.Prelude.{◌==◌, Option, None, Some, is_some, nat_lt}
use Rattle.std.specs.List.{list_all}
use Rattle.std.specs.Cmp.{unsigned_ties}
use Rattle.ec_base.specs.Tables.{Table, at, at_or, or_else, put, keys}
use Rattle.ec_base.specs.declared.ids.Hold.{Hold}
use Rattle.ec_base.specs.declared.ids.Hold.TheVariants.{Free, Read, Write}
use Rattle.ec_volume.specs.Update.{member}
use Rattle.ec_history.specs.History.{Each}
use Rattle.ec_base.specs.Holds.{rank, clash, is_free}
use Rattle.ec_sessions.specs.OfTokens.Laws.{sound_claimed}
use Rattle.ec_sessions.specs.OfTokens.Tokens as tokens
use Rattle.ec_sessions.specs.declared.tokens.token.Token.{Token}
use Rattle.ec_sessions.specs.declared.recall.want.Want as want
use Rattle.ec_wire.specs.Messages.{is_held_mode, rises}
use Rattle.ec_cache.specs.Cache.{last, held_mode}
use Rattle.ec_cache.specs.declared.state.Held.{Held}
use Rattle.ec_coherence.specs.System.{Eff, recorded, eff_from}
use Rattle.ec_coherence.specs.Tokens.{Tables, View, Side, InSession, eff, eff_hold, Apart, Below, Names, NotedFits, Noted, ClaimFits, is_hidden, IsEarlier, TokensAgree}
use Rattle.ec_coherence.proofs.ForServer.Changed.{over, changed, Own, changed-agrees}
use Rattle.ec_coherence.proofs.ForServer.Tables.{at-put, set-row, clash-below, each-map, differs}
use Rattle.ec_base.proofs.Numbers.{same-self as same, equal}
use Rattle.ec_base.proofs.Bools.{not-both as refutes, no-longer as is-false}

-- What a list of rising ids records.

abbrev claim_token : Option Hold → Option Token
claim_token None = None
claim_token (Some h) = Some (record { hold = h; number = 0 })

module _ (y : ℕ) where
  pub at-cons : {X : Type 0} (e : ℕ × X) (es : Table X) → at y (e ∷ es) ≡ cond (y == e.0) (Some e.1) (at y es)
  at-cons e es = sym (at-put-front e es)
    where
      at-put-front : {X : Type 0} (e : ℕ × X) (es : Table X) → cond (y == e.0) (Some e.1) (at y es) ≡ at y (e ∷ es)
      at-put-front e es = ap (λ b. cond b (Some e.1) (at y es)) (unsigned_ties y e.0)

  none-above : (n : ℕ) (es : Table Hold) → T (rises (n ∷ keys es)) → y ≤ n → at y es ≡ None
  none-above n [] r l = refl
  none-above n (e ∷ es) r l = let p = and-parts (nat_lt n e.0) (rises (e.0 ∷ keys es)) r in at-cons e es ∙ ap (λ b. cond b (Some e.1) (at y es)) (off y n e.0 l p.0) ∙ none-above e.0 es p.1 (below y n e.0 l p.0)
    where
      and-parts : (a b : Bool) → T (a && b) → T a × T b
      and-parts true b t = (tt, t)
      and-parts false b t = absurd t

      off : (y n m : ℕ) → y ≤ n → T (nat_lt n m) → (y == m) ≡ false
      off y n m l t = grind arith

      below : (y n m : ℕ) → y ≤ n → T (nat_lt n m) → y ≤ m
      below y n m l t = grind arith

  abbrev over-row : Option Hold → Option Token → Option Token
  over-row None o = o
  over-row (Some h) o = Some (record { hold = h; number = 0 })

  claimed-at : (l : Table Hold) (r : tokens.Row) → T (rises (keys l)) → at y (tokens.claimed_in l r) ≡ over-row (at y l) (at y r)
  claimed-at [] r t = refl
  claimed-at (e ∷ es) r t = claimed-at es (put e.0 (record { hold = e.1; number = 0 }) r) (rest es t) ∙ ap (over-row (at y es)) (at-put y e.0 (record { hold = e.1; number = 0 }) r) ∙ go (y == e.0) refl ∙ sym (ap (λ o. over-row o (at y r)) (at-cons e es))
    where
      rest : (es : Table Hold) → T (rises (e.0 ∷ keys es)) → T (rises (keys es))
      rest [] t = tt
      rest (f ∷ fs) t = second (nat_lt e.0 f.0) t
        where
          second : (a : Bool) → T (a && rises (f.0 ∷ keys fs)) → T (rises (f.0 ∷ keys fs))
          second true t = t
          second false t = absurd t

      go : (b : Bool) → (y == e.0) ≡ b → over-row (at y es) (cond b (Some (record { hold = e.1; number = 0 })) (at y r)) ≡ over-row (cond b (Some e.1) (at y es)) (at y r)
      go true p = ap (λ o. over-row o (Some (record { hold = e.1; number = 0 }))) (none-above e.0 es t (at-most y e.0 p))
        where
          at-most : (y n : ℕ) → (y == n) ≡ true → y ≤ n
          at-most y n p = grind arith
      go false p = refl

  each-at : (P : ℕ → Type 0) (l : Table Hold) (h : Hold) → Each (λ c. P c.0) l → at y l ≡ Some h → P y
  each-at P [] h f p = absurd (cc)
  each-at P (e ∷ es) h f p = go (y == e.0) refl (sym (at-cons e es) ∙ p) (each-at P es h f.1)
    where
      go : (b : Bool) → (y == e.0) ≡ b → cond b (Some e.1) (at y es) ≡ Some h → (at y es ≡ Some h → P y) → P y
      go true q r g = subst P (sym (equal y e.0 q)) f.0
      go false q r g = g r

module _ (w : View) (v : Tables) (s : ℕ) (l : Table Hold) (agree : TokensAgree (over v w)) (fresh : T (not (member s v.claimed))) (is_open : T (w.is_open s)) (taken : T (w.taken s))
    (fits : InSession w s (ClaimFits (over v w) s w.epoch l)) (names : Each (λ c. Names w c.0) l) (rising : T (rises (keys l))) (held : list_all (λ e. not (is_free e.1)) l ≡ true)
    (clear : tokens.first_clash v.tokens s l ≡ None) where
  abbrev ts : tokens.Tokens
  ts = tokens.claimed s l v.tokens

  abbrev cl : List ℕ
  cl = s ∷ v.claimed

  abbrev v' : Tables
  v' = changed ts v.recalls cl v.number v.recorded

  eff-old : (x : ℕ) → eff (over v w) s x ≡ w.old s x
  eff-old x = ap (λ b. eff_from b (tokens.token v.tokens s x) w.epoch (w.old s x)) (is-false (member s v.claimed) fresh)

  earlier : (x : ℕ) → IsEarlier w.epoch (eff (over v w) s x)
  earlier x = subst (IsEarlier w.epoch) (sym (eff-old x)) ((agree.tables.others s x fresh).1 is_open)

  token-s : (x : ℕ) → tokens.token ts s x ≡ claim_token (at x l)
  token-s x = set-row v.tokens s (tokens.claimed_in l (tokens.row v.tokens s)) s x ∙ ap (λ b. cond b (at x (tokens.claimed_in l (tokens.row v.tokens s))) (tokens.token v.tokens s x)) (same s)
      ∙ claimed-at x l (tokens.row v.tokens s) rising ∙ ap (over-row x (at x l)) (agree.tables.others s x fresh).0 ∙ none (at x l)
    where
      none : (o : Option Hold) → over-row x o None ≡ claim_token o
      none None = refl
      none (Some h) = refl

  only : (t x : ℕ) → (t == s) ≡ false → tokens.token ts t x ≡ tokens.token v.tokens t x
  only t x d = set-row v.tokens s (tokens.claimed_in l (tokens.row v.tokens s)) t x ∙ ap (λ b. cond b (at x (tokens.claimed_in l (tokens.row v.tokens s))) (tokens.token v.tokens t x)) d

  -- of the token on x, as the list has it
  own-at : (P : ℕ → Option Token → Type 0) → ((x : ℕ) (o : Option Hold) → at x l ≡ o → P x (claim_token o)) → (x : ℕ) → P x (tokens.token ts s x)
  own-at P f x = subst (P x) (sym (token-s x)) (f x (at x l) refl)

  mode-claimed : (o : Option Hold) → eff_hold (recorded (claim_token o) w.epoch) ≡ or_else Free o
  mode-claimed None = refl
  mode-claimed (Some h) = refl

  -- its clerk
  clerk : (k : Side) × (w.clerk s ≡ Some k)
  clerk = go (w.clerk s) refl (agree.present s is_open taken)
    where
      go : (o : Option Side) → w.clerk s ≡ o → T (is_some o) → (k : Side) × (w.clerk s ≡ Some k)
      go None p t = absurd t
      go (Some k) p t = (k, p)

  at-most : (x : ℕ) → rank (at_or Free x l) ≤ rank (eff_hold (eff (over v w) s x))
  at-most x = ((fits clerk.0 clerk.1).1 x).1

  none-hidden : (t x : ℕ) → T (is_hidden w t x) → (o : Option Hold) → at x l ≡ o → claim_token o ≡ None
  none-hidden t x h None p = refl
  none-hidden t x h (Some m) p = absurd (refutes (is_hidden w t x) h ((each-at x (Names w) l m names p).1 t))

  below : (x : ℕ) → InSession w s (λ k. Below k.epoch (last x k.cache) (at x k.cache.held) (recorded (tokens.token ts s x) w.epoch))
  below x k i = subst (λ o. Below k.epoch (last x k.cache) (at x k.cache.held) (recorded o w.epoch)) (sym (token-s x)) (go (at x k.cache.held) (at x l) ((fits k i).1 x).0 (eff (over v w) s x) (agree.below s x k i) (earlier x) (agree.holds s x k i))
    where
      go : (z : Option Held) (o : Option Hold) → rank (held_mode z) ≤ rank (or_else Free o) → (f : Option Eff) → Below k.epoch (last x k.cache) z f → IsEarlier w.epoch f → ((h : Held) → z ≡ Some h → T (is_held_mode h.hold))
          → Below k.epoch (last x k.cache) z (recorded (claim_token o) w.epoch)
      go None o m f b e g = tt
      go (Some d) o m None b e g = absurd b
      go (Some d) None m (Some f) b e g = absurd (low d.hold (g d refl) m)
        where
          low : (a : Hold) → T (is_held_mode a) → rank a ≤ 0 → ⊥
          low Free t m = t
          low Read t m = absurd (omega arith)
          low Write t m = absurd (omega arith)
      go (Some d) (Some h) m (Some f) b e g =
          let zero : d.number ≡ 0 = elim (b.2) [ inl q ↦ absurd (let y = q.0 in let z = (fits k i).0 in omega arith) | inr q ↦ q.1 ] in
          (m, b.1, inl (sym (fits k i).0, omega arith, λ c. absurd (omega arith)))

  own : Own w v ts v.recalls cl v.number v.recorded s
  own = record {
    claimed = subst (λ b. T (b || member s v.claimed)) (sym (same s)) tt;
    stay = λ t d. ap (λ b. b || member t v.claimed) d;
    is_open = is_open;
    taken = taken;
    epoch = λ k i. (fits k i).0;
    only = only;
    sound = sound_claimed v.tokens s agree.tables.sound l held clear;
    apart = λ t x d o. own-at (λ x z. Apart (recorded z w.epoch) (eff (over v w) t x))
        (λ x z p. subst (λ m. T (not (clash m (eff_hold (eff (over v w) t x))))) (sym (mode-claimed z ∙ ap (or_else Free) (sym p)))
        (clash-below (at_or Free x l) (eff_hold (eff (over v w) s x)) (eff_hold (eff (over v w) t x)) (at-most x) (agree.exclusive s t x (λ q. not-it t d (sym q)) is_open o))) x;
    known = own-at (λ x z. (t : Token) → z ≡ Some t → (x < w.next_token) × T (w.taken s) × (t.number ≤ v.number)) known-at;
    below = below;
    live = λ x e m h k i a r p. absurd (dead x e m h k i a p);
    alone = λ t x d h. own-at (λ x z. T (is_hidden w t x) → z ≡ None) (λ x o p h. none-hidden t x h o p) x h;
    number = omega arith;
    grown = λ t g. g;
    wants = each-map (Noted (over v w) v) (Noted (over v' w) v') v.recalls noted agree.tables.wants;
    distinct = agree.tables.apart;
    recorded = λ t m p. inl p;
    unrecorded = λ x r h. own-at (λ x z. T (is_hidden w s x) → z ≡ None) (λ x o p h. none-hidden s x h o p) x h;
  }
    where
      not-it : (t : ℕ) → (t == s) ≡ false → t ≢ s
      not-it t d p = differs t s d p

      known-at : (x : ℕ) (o : Option Hold) → at x l ≡ o → (t : Token) → claim_token o ≡ Some t → (x < w.next_token) × T (w.taken s) × (t.number ≤ v.number)
      known-at x None p t q = absurd (cc)
      known-at x (Some h) p t q = ((let y = (each-at x (Names w) l h names p).0 in let z = agree.next in omega arith), taken, (let a : 0 ≡ t.number = cc in omega arith))

      dead : (x e m : ℕ) (h : Hold) (k : Side) → w.clerk s ≡ Some k → e ≡ k.epoch → eff (over v w) s x ≡ Some (record { hold = h; number = m; epoch = e }) → ⊥
      dead x e m h k i a p = let q = (fits k i).0 in let r = subst (IsEarlier w.epoch) p (earlier x) in absurd (omega arith)

      noted : (q : want.Want) → Noted (over v w) v q → Noted (over v' w) v' q
      noted q f = (in-more (q.session == s) f.0, f.1, f.2, f.3, λ k i. subst (λ o. NotedFits q.hold o (at q.obj k.cache.held) (last q.obj k.cache)) (sym (only q.session q.obj off)) (f.4 k i))
        where
          in-more : (b : Bool) → T (member q.session v.claimed) → T (b || member q.session v.claimed)
          in-more true t = tt
          in-more false t = t

          off : (q.session == s) ≡ false
          off = go (q.session == s) refl
            where
              go : (b : Bool) → (q.session == s) ≡ b → b ≡ false
              go true e = absurd (refutes (member s v.claimed) (subst (λ t. T (member t v.claimed)) (equal q.session s e) f.0) fresh)
              go false e = refl

  pub claimed-agrees : TokensAgree (over v' w)
  claimed-agrees = changed-agrees w v ts v.recalls cl v.number v.recorded s agree own
