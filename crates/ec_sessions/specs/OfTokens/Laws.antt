-- What a changed map of tokens holds, and that no two tokens conflict after a change. No public clause cites this file.
use Rattle.std.proofs.Common.{◌≡◌, ◌≢◌, refl, sym, ap, ◌∙◌, arith, ℕ, Bool, true, false, not, cond, ◌&&◌, List, [], ◌∷◌, Option, None, Some, filter, subst, length, ◌<◌, ◌⊎◌, inl, inr, ⊎_elim, zero, suc}
use Rattle.std.specs.Prelude.{◌==◌, T, is_none, slice_index_or, Contains}
use Rattle.std.specs.Ordering.{nat_cmp, is_lt, is_eq, eq_by_cmp}
use Rattle.std.specs.Cmp.{nat_cmp_total, eq_by_cmp_equiv, unsigned_ties}
use Rattle.std.specs.FinMap.{find, put, is_sorted}
use Rattle.std.specs.FinMap.Entries.{below_all, by_order, find-put, is_sorted-put, is_sorted-where_key, same_entries}
use Rattle.std.specs.declared.cmp.Ordering.TheVariants.{Less, Equal, Greater}
use Rattle.std.proofs.lemmas.Cmp.{tied_itself}
use Rattle.std.proofs.lemmas.Bool.Decides.{nat_tests}
use Rattle.std.proofs.lemmas.List.Elements.{Contains-append_right}
use Rattle.std.proofs.lemmas.Bool.{eqb-true, eqb-false, ne_eqb, and_parts, not-true}
use Rattle.std.specs.List.{list_all}
use Rattle.ec_base.specs.declared.ids.Hold.{Hold}
use Rattle.ec_base.specs.declared.ids.Hold.TheVariants.{Free}
use Rattle.ec_base.specs.Sorted.{without}
use Rattle.ec_base.specs.SortedLaws.{first as front, second as rest, both, find-without, not_None, same_Some}
use Rattle.ec_sessions.specs.declared.tokens.token.Token.{Token}
use Rattle.ec_base.specs.Holds.{is_free, is_below, clash}
use Rattle.ec_sessions.specs.OfTokens.Tokens.{Row, Tokens, with_row, Holder, held_by, is_conflict, row, row_of, token, mode, holders, first_holder, first_conflict, is_clear, granted, fits_back, lowered, claimed_in, claimed, clash_at, first_clash}
use Rattle.ec_sessions.specs.OfTokens.SoundTokens.{is_row, IsSound}

-- Maps by number.

tied : (j k : ℕ) → eq_by_cmp nat_cmp j k ≡ true → j ≡ k
tied j k e = eqb-true j k (unsigned_ties j k ∙ e)

exact : (j k : ℕ) → nat_cmp j k ≡ Equal → j ≡ k
exact j k e = tied j k (ap is_eq e)

module _ {X : Type 0} (j k : ℕ) where
  found-put : (x : X) (es : List (ℕ × X)) → find nat_cmp j (put nat_cmp k x es) ≡ cond (j == k) (Some x) (find nat_cmp j es)
  found-put x es = find-put nat_cmp nat_cmp_total j k x es ∙ ap (λ b. cond b (Some x) (find nat_cmp j es)) (sym (unsigned_ties j k))

  found-without : (es : List (ℕ × X)) → find nat_cmp j (without nat_cmp k es) ≡ cond (j == k) None (find nat_cmp j es)
  found-without es = find-without nat_cmp nat_cmp_total j k es ∙ ap (λ b. cond b None (find nat_cmp j es)) ((eq_by_cmp_equiv nat_cmp_total).symm k j ∙ sym (unsigned_ties j k))

positive : (n : ℕ) → T (not (suc n == 0))
positive n = subst (λ b. T (not b)) (sym (ne_eqb (suc n) 0 (λ e. absurd (omega (arith, e))))) tt

put_some : {X : Type 0} (k : ℕ) (x : X) (es : List (ℕ × X)) → T (not (length (put nat_cmp k x es) == 0))
put_some k x [] = positive 0
put_some k x (e ∷ es) =
    elim (nat_cmp k e.0) as (λ o. T (not (length (by_order o ((k, x) ∷ e ∷ es) ((e.0, x) ∷ es) (e ∷ put nat_cmp k x es)) == 0))) [ Less ↦ positive _ | Equal ↦ positive _ | Greater ↦ positive _ ]

-- Modes.

pub clash-sym : (a b : Hold) → clash a b ≡ clash b a
clash-sym a b = grind arith

-- A mode that isn't above another conflicts with nothing that the other doesn't.
pub clash_lower : (a to b : Hold) → is_below a to ≡ false → clash a b ≡ false → clash to b ≡ false
clash_lower a to b l c = grind arith

clash_free : (h : Hold) → clash Free h ≡ false
clash_free h = grind arith

-- Who holds tokens.

abbrev holder_of : ℕ → Token → Holder
holder_of s t = (s, t.hold, t.number)

first_or : {X : Type 0} (y : X) (ys : List X) (x : X) → Contains (y ∷ ys) x → (y ≡ x) ⊎ Contains ys x
first_or y ys x c = go c.0 c.1 c.2
  where
    go : (k : ℕ) → k < length (y ∷ ys) → slice_index_or (y ∷ ys) k x ≡ x → (y ≡ x) ⊎ Contains ys x
    go zero l e = inl e
    go (suc k) l e = inr (k, omega arith, e)

-- Each token has its holder.
pub has_holder : (ts : Tokens) (s x : ℕ) (t : Token) → token ts s x ≡ Some t → Contains (holders ts x) (s, t.hold, t.number)
has_holder [] s x t found = absurd (grind arith)
has_holder (r ∷ rs) s x t found = go (eq_by_cmp nat_cmp s r.0) (find nat_cmp x r.1) refl refl found (has_holder rs s x t)
  where
    go : (a : Bool) (o : Option Token) → eq_by_cmp nat_cmp s r.0 ≡ a → find nat_cmp x r.1 ≡ o → find nat_cmp x (row_of (cond a (Some r.1) (find nat_cmp s rs))) ≡ Some t → (token rs s x ≡ Some t → Contains (holders rs x) (holder_of s t))
        → Contains (held_by r.0 o (holders rs x)) (holder_of s t)
    go true None p q f more = let none : None ≡ Some t = sym q ∙ f in absurd (grind arith)
    go true (Some k) p q f more =
        let found_is : Some k ≡ Some t = sym q ∙ f in
        let same : k ≡ t = (cc) in
        (0, omega arith, ap (λ z. holder_of z k) (sym (tied s r.0 p)) ∙ ap (holder_of s) same)
    go false None p q f more = more f
    go false (Some k) p q f more = Contains-append_right (holder_of r.0 k ∷ []) (holders rs x) (holder_of s t) (more f)

-- And each holder has its token, where the sessions rise.
pub holder_has : (ts : Tokens) (x : ℕ) (h : Holder) → T (is_sorted nat_cmp ts) → Contains (holders ts x) h → token ts h.0 x ≡ Some (record { hold = h.1; number = h.2 })
holder_has [] x h rising c = absurd (omega (arith, c.1))
holder_has (r ∷ rs) x h rising c = go (find nat_cmp x r.1) refl c (holder_has rs x h (rest _ _ rising))
  where
    among : (l : Tokens) → T (below_all nat_cmp r.0 l) → Contains (holders l x) h → eq_by_cmp nat_cmp h.0 r.0 ≡ false
    among [] a m = absurd (omega (arith, m.1))
    among (q ∷ qs) a m = by (find nat_cmp x q.1) m (among qs (rest (is_lt (nat_cmp r.0 q.0)) (below_all nat_cmp r.0 qs) a))
      where
        higher : T (is_lt (nat_cmp r.0 q.0)) → eq_by_cmp nat_cmp q.0 r.0 ≡ false
        higher l = grind (arith, nat_tests)

        by : (o : Option Token) → Contains (held_by q.0 o (holders qs x)) h → (Contains (holders qs x) h → eq_by_cmp nat_cmp h.0 r.0 ≡ false) → eq_by_cmp nat_cmp h.0 r.0 ≡ false
        by None m f = f m
        by (Some k) m f = ⊎_elim (λ e. ap (λ z. eq_by_cmp nat_cmp z.0 r.0) (sym e) ∙ higher (front (is_lt (nat_cmp r.0 q.0)) (below_all nat_cmp r.0 qs) a)) f (first_or (holder_of q.0 k) (holders qs x) h m)

    later : Contains (holders rs x) h → (token rs h.0 x ≡ Some (record { hold = h.1; number = h.2 })) → token (r ∷ rs) h.0 x ≡ Some (record { hold = h.1; number = h.2 })
    later m e = ap (λ b. find nat_cmp x (row_of (cond b (Some r.1) (find nat_cmp h.0 rs)))) (among rs (front (below_all nat_cmp r.0 rs) (is_sorted nat_cmp rs) rising) m) ∙ e

    here : (k : Token) → find nat_cmp x r.1 ≡ Some k → holder_of r.0 k ≡ h → token (r ∷ rs) h.0 x ≡ Some (record { hold = h.1; number = h.2 })
    here k q e = ap (λ z. token (r ∷ rs) z.0 x) (sym e) ∙ ap (λ b. find nat_cmp x (row_of (cond b (Some r.1) (find nat_cmp r.0 rs)))) ((eq_by_cmp_equiv nat_cmp_total).refl r.0) ∙ q ∙ ap (λ z. Some (record { hold = z.1; number = z.2 })) e

    go : (o : Option Token) → find nat_cmp x r.1 ≡ o → Contains (held_by r.0 o (holders rs x)) h → (Contains (holders rs x) h → token rs h.0 x ≡ Some (record { hold = h.1; number = h.2 })) → token (r ∷ rs) h.0 x ≡ Some (record { hold = h.1; number = h.2 })
    go None q m f = later m (f m)
    go (Some k) q m f = ⊎_elim (here k q) (λ n. later n (f n)) (first_or (holder_of r.0 k) (holders rs x) h m)

none_pass : (test : Holder → Bool) (hs : List Holder) (h : Holder) → is_none (first_holder (filter test hs)) ≡ true → Contains hs h → test h ≡ false
none_pass test [] h c m = absurd (omega (arith, m.1))
none_pass test (g ∷ hs) h c m = go (test g) refl c (none_pass test hs h)
  where
    go : (b : Bool) → test g ≡ b → is_none (first_holder (cond b (g ∷ filter test hs) (filter test hs))) ≡ true → (is_none (first_holder (filter test hs)) ≡ true → Contains hs h → test h ≡ false) → test h ≡ false
    go true e d f = absurd (grind arith)
    go false e d f = ⊎_elim (λ is. ap test (sym is) ∙ e) (f d) (first_or g hs h m)

-- Where a mode conflicts with no token, it conflicts with none of any other session.
pub clear_of : (ts : Tokens) (s x : ℕ) (h : Hold) → is_clear ts s x h ≡ true → (t : ℕ) → (t == s) ≡ false → clash (mode (token ts t x)) h ≡ false
clear_of ts s x h clear t other = go (token ts t x) refl
  where
    go : (o : Option Token) → token ts t x ≡ o → clash (mode o) h ≡ false
    go None e = clash_free h
    go (Some k) e = ap (λ b. not b && clash k.hold h) (sym other) ∙ none_pass (is_conflict s h) (holders ts x) (holder_of t k) clear (has_holder ts t x k e)

-- A change of one session's row.

-- The token may stand in the session's row: it isn't Free, and conflicts with no token of another session.
abbrev pub Fits : Tokens → ℕ → ℕ → Token → Type 0
Fits ts s x k = (is_free k.hold ≡ false) × ((t : ℕ) → (t == s) ≡ false → clash k.hold (mode (token ts t x)) ≡ false)

abbrev pub AllFit : Tokens → ℕ → Row → Type 0
AllFit ts s r = (x : ℕ) (k : Token) → find nat_cmp x r ≡ Some k → Fits ts s x k

module _ (ts : Tokens) (s : ℕ) (sound : IsSound ts) where
  fit_row : AllFit ts s (row ts s)
  fit_row x k found = (sound.held s x k found, λ t other. ap (λ o. clash (mode o) (mode (token ts t x))) (sym found) ∙ sound.apart s t x (λ e. eqb-false t s other (sym e)))

  -- The session has this row or none, and all others theirs.
  sound_changed : (own : Option Row) (new : Tokens) → AllFit ts s (row_of own) → ((r : Row) → own ≡ Some r → T (is_row r)) → T (is_sorted nat_cmp new) → ((u : ℕ) → find nat_cmp u new ≡ cond (u == s) own (find nat_cmp u ts)) → IsSound new
  sound_changed own new fit is_own rising found = record { apart = λ u v x differ. (λ i. clash (mode (shows u x i)) (mode (shows v x i))) ∙ apart u v x differ (u == s) (v == s) refl refl; held = λ u x k is. held u x k (u == s) refl (sym (shows u x) ∙ is); rising = rising; rows = λ u r is. rows u r (u == s) (sym (found u) ∙ is) }
    where
      rows : (u : ℕ) (r : Row) (b : Bool) → cond b own (find nat_cmp u ts) ≡ Some r → T (is_row r)
      rows u r true is = is_own r is
      rows u r false is = sound.rows u r is

      shows : (u x : ℕ) → token new u x ≡ find nat_cmp x (row_of (cond (u == s) own (find nat_cmp u ts)))
      shows u x = ap (λ o. find nat_cmp x (row_of o)) (found u)

      from_others : (x : ℕ) (o : Option Token) → find nat_cmp x (row_of own) ≡ o → (t : ℕ) → (t == s) ≡ false → clash (mode o) (mode (token ts t x)) ≡ false
      from_others x None e t other = clash_free _
      from_others x (Some k) e t other = (fit x k e).1 t other

      apart : (u v x : ℕ) → u ≢ v → (a b : Bool) → (u == s) ≡ a → (v == s) ≡ b
          → clash (mode (find nat_cmp x (row_of (cond a own (find nat_cmp u ts))))) (mode (find nat_cmp x (row_of (cond b own (find nat_cmp v ts))))) ≡ false
      apart u v x differ true true p q = absurd (differ (eqb-true u s p ∙ sym (eqb-true v s q)))
      apart u v x differ true false p q = from_others x _ refl v q
      apart u v x differ false true p q = clash-sym _ _ ∙ from_others x _ refl u p
      apart u v x differ false false p q = sound.apart u v x differ

      held : (u x : ℕ) (k : Token) (b : Bool) → (u == s) ≡ b → find nat_cmp x (row_of (cond b own (find nat_cmp u ts))) ≡ Some k → is_free k.hold ≡ false
      held u x k true p is = (fit x k is).0
      held u x k false p is = sound.held u x k is

  sound_put : (r : Row) → AllFit ts s r → T (is_row r) → IsSound (put nat_cmp s r ts)
  sound_put r fit is_own = sound_changed (Some r) _ fit (λ q same. subst (λ l. T (is_row l)) (same_Some same) is_own) (is_sorted-put nat_cmp nat_cmp_total s r ts sound.rising) (λ u. found-put u s r ts)

  pub sound_without : IsSound (without nat_cmp s ts)
  sound_without = sound_changed None _ (λ x k found. absurd (grind arith)) (λ q none. absurd (not_None (sym none))) (is_sorted-where_key nat_cmp _ ts sound.rising) (λ u. found-without u s ts)

  -- The row's objects rise, and it may be empty.
  sound_with_row : (r : Row) → AllFit ts s r → T (is_sorted nat_cmp r) → IsSound (with_row s r ts)
  sound_with_row r fit rising = by (length r == 0) refl
    where
      by : (b : Bool) → (length r == 0) ≡ b → IsSound (cond b (without nat_cmp s ts) (put nat_cmp s r ts))
      by true e = sound_without
      by false e = sound_put r fit (both (not (length r == 0)) (is_sorted nat_cmp r) (subst (λ b. T (not b)) (sym e) tt) rising)

  row_rises : T (is_sorted nat_cmp (row ts s))
  row_rises = go (find nat_cmp s ts) refl
    where
      go : (o : Option Row) → find nat_cmp s ts ≡ o → T (is_sorted nat_cmp (row_of o))
      go None e = tt
      go (Some r) e = rest (not (length r == 0)) (is_sorted nat_cmp r) (sound.rows s r e)

  fit_put : (r : Row) (x : ℕ) (k : Token) → AllFit ts s r → Fits ts s x k → AllFit ts s (put nat_cmp x k r)
  fit_put r x k fit new y t found = go (y == x) refl (sym (found-put y x k r) ∙ found)
    where
      go : (b : Bool) → (y == x) ≡ b → cond b (Some k) (find nat_cmp y r) ≡ Some t → Fits ts s y t
      go true e f = let same : k ≡ t = (cc) in subst (Fits ts s y) same (subst (λ z. Fits ts s z k) (sym (eqb-true y x e)) new)
      go false e f = fit y t f

  fit_without : (r : Row) (x : ℕ) → AllFit ts s r → AllFit ts s (without nat_cmp x r)
  fit_without r x fit y t found = go (y == x) (sym (found-without y x r) ∙ found)
    where
      go : (b : Bool) → cond b None (find nat_cmp y r) ≡ Some t → Fits ts s y t
      go true e = absurd (grind arith)
      go false e = fit y t e

  fits : (x : ℕ) (h : Hold) (n : ℕ) → is_free h ≡ false → is_clear ts s x h ≡ true → Fits ts s x (record { hold = h; number = n })
  fits x h n held clear = (held, λ t other. clash-sym _ _ ∙ clear_of ts s x h clear t other)

  pub sound_granted : (x : ℕ) (h : Hold) (n : ℕ) → is_free h ≡ false → is_clear ts s x h ≡ true → IsSound (granted s x h n ts)
  sound_granted x h n held clear = sound_put _ (fit_put (row ts s) x _ fit_row (fits x h n held clear)) (both _ _ (put_some x _ (row ts s)) (is_sorted-put nat_cmp nat_cmp_total x _ (row ts s) row_rises))

  pub sound_lowered : (x : ℕ) (to : Hold) (n : ℕ) → fits_back (token ts s x) n to ≡ true → IsSound (lowered s x to n ts)
  sound_lowered x to n back = sound_with_row _ (by (is_free to) refl) (rises (is_free to))
    where
      within : (o : Option Token) → token ts s x ≡ o → fits_back o n to ≡ true → (t : ℕ) → (t == s) ≡ false → clash to (mode (token ts t x)) ≡ false
      within None e f t other = absurd (grind arith)
      within (Some k) e f t other =
          let high : is_below k.hold to ≡ false = grind (arith, and_parts (k.number == n) (not (is_below k.hold to)) f) in
          clash_lower k.hold to _ high ((fit_row x k e).1 t other)

      by : (b : Bool) → is_free to ≡ b → AllFit ts s (cond b (without nat_cmp x (row ts s)) (put nat_cmp x (record { hold = to; number = n }) (row ts s)))
      by true e = fit_without (row ts s) x fit_row
      by false e = fit_put (row ts s) x _ fit_row (e, within (token ts s x) refl back)

      rises : (b : Bool) → T (is_sorted nat_cmp (cond b (without nat_cmp x (row ts s)) (put nat_cmp x (record { hold = to; number = n }) (row ts s))))
      rises true = is_sorted-where_key nat_cmp _ (row ts s) row_rises
      rises false = is_sorted-put nat_cmp nat_cmp_total x _ (row ts s) row_rises

  pub sound_claimed : (list : List (ℕ × Hold)) → list_all (λ e. not (is_free e.1)) list ≡ true → first_clash ts s list ≡ None → IsSound (claimed s list ts)
  sound_claimed list held clear = sound_with_row _ (go list (row ts s) held clear fit_row) (rises list (row ts s) row_rises)
    where
      rises : (l : List (ℕ × Hold)) (r : Row) → T (is_sorted nat_cmp r) → T (is_sorted nat_cmp (claimed_in l r))
      rises [] r h = h
      rises (e ∷ es) r h = rises es _ (is_sorted-put nat_cmp nat_cmp_total e.0 _ r h)

      parts : (e : ℕ × Hold) (es : List (ℕ × Hold)) (o : Option ℕ) → first_conflict ts s e.0 e.1 ≡ o → clash_at e.0 o (first_clash ts s es) ≡ None → (is_clear ts s e.0 e.1 ≡ true) × (first_clash ts s es ≡ None)
      parts e es None p c = (ap is_none p, c)
      parts e es (Some t) p c = absurd (grind arith)

      go : (l : List (ℕ × Hold)) (r : Row) → list_all (λ e. not (is_free e.1)) l ≡ true → first_clash ts s l ≡ None → AllFit ts s r → AllFit ts s (claimed_in l r)
      go [] r a c fit = fit
      go (e ∷ es) r a c fit =
          let p = and_parts (not (is_free e.1)) (list_all (λ e. not (is_free e.1)) es) a in
          let q = parts e es (first_conflict ts s e.0 e.1) refl c in
          go es _ p.1 q.1 (fit_put r e.0 _ fit (fits e.0 e.1 0 (not-true (is_free e.1) p.0) q.0))

pub sound_none : IsSound []
sound_none = record { apart = λ s t x differ. refl; held = λ s x t found. absurd (grind arith); rising = tt; rows = λ s r found. absurd (not_None (sym found)) }

pub not_free : (h : Hold) → h ≢ Free → is_free h ≡ false
not_free h differ = grind arith

-- What a grant leaves.
pub token-granted : (ts : Tokens) (s x : ℕ) (h : Hold) (n t y : ℕ) → token (granted s x h n ts) t y ≡ cond ((t == s) && (y == x)) (Some (record { hold = h; number = n })) (token ts t y)
token-granted ts s x h n t y =
    ap (λ o. find nat_cmp y (row_of o)) (found-put t s _ ts) ∙ go (t == s) refl
  where
    k : Token
    k = record { hold = h; number = n }

    go : (b : Bool) → (t == s) ≡ b → find nat_cmp y (row_of (cond b (Some (put nat_cmp x k (row ts s))) (find nat_cmp t ts))) ≡ cond (b && (y == x)) (Some k) (token ts t y)
    go true e = found-put y x k (row ts s) ∙ ap (λ z. cond (y == x) (Some k) (token ts z y)) (sym (eqb-true t s e))
    go false e = refl

-- The list is the map.

has_first : (r : Row) → T (is_row r) → (x : ℕ) × (t : Token) × (find nat_cmp x r ≡ Some t)
has_first [] h = absurd h
has_first (e ∷ es) h = (e.0, e.1, rw (tied_itself nat_cmp_total e.0) refl)

pub one_list : (ts us : Tokens) → IsSound ts → IsSound us → ((s x : ℕ) → token ts s x ≡ token us s x) → ts ≡ us
one_list ts us a b same = same_entries nat_cmp nat_cmp_total exact ts us a.rising b.rising (λ s. go s (find nat_cmp s ts) (find nat_cmp s us) refl refl)
  where
    go : (s : ℕ) (o p : Option Row) → find nat_cmp s ts ≡ o → find nat_cmp s us ≡ p → o ≡ p
    go s None None e f = refl
    go s (Some q) (Some r) e f =
        let h = a.rows s q e in
        let k = b.rows s r f in
        ap Some (same_entries nat_cmp nat_cmp_total exact q r (rest _ _ h) (rest _ _ k) (λ x. ap (λ o. find nat_cmp x (row_of o)) (sym e) ∙ same s x ∙ ap (λ o. find nat_cmp x (row_of o)) f))
    go s (Some q) None e f =
        let w = has_first q (a.rows s q e) in
        absurd (not_None (sym w.2 ∙ ap (λ o. find nat_cmp w.0 (row_of o)) (sym e) ∙ same s w.0 ∙ ap (λ o. find nat_cmp w.0 (row_of o)) f))
    go s None (Some r) e f =
        let w = has_first r (b.rows s r f) in
        absurd (not_None (sym w.2 ∙ ap (λ o. find nat_cmp w.0 (row_of o)) (sym f) ∙ sym (same s w.0) ∙ ap (λ o. find nat_cmp w.0 (row_of o)) e))
