-- Wants under their keys, and those that stay.
use Rattle.std.proofs.Common.{◌≡◌, ◌≢◌, ◌<◌, zero, suc, length, get_or, refl, sym, ap, subst, ◌∙◌, arith, ℕ, Bool, true, false, cond, ◌&&◌, List, [], ◌∷◌, ◌++◌, map, filter, None, Some}
use Rattle.std.specs.Prelude.{◌==◌}
use Rattle.std.specs.List.{IsDistinct, AllByRecursion}
use Rattle.std.specs.Map.{lookup, set_value, keys_of, values_of}
use Rattle.std.proofs.lemmas.Bool.{eqb-true, and_parts}
use Rattle.std.proofs.lemmas.List.{append_assoc}
use Rattle.ec_base.specs.declared.ids.Hold.{Hold}
use Rattle.ec_base.specs.Holds.{is_free, stronger}
use Rattle.ec_base.specs.declared.ids.Hold.TheVariants.{Free}
use Rattle.ec_sessions.specs.OfTokens.Tokens.{Tokens, conflicts}
use Rattle.ec_sessions.specs.declared.recall.want.Want.{Want}
use Rattle.ec_sessions.specs.OfRecall.Due.{is_due, told_of, given_after, wants_from}
use Rattle.ec_sessions.specs.OfRecall.Keys.{Key, key_of, same_key, IsKeyed, AreApart}
use Rattle.ec_sessions.specs.OfRecall.Wants.{is_of, noted}
use Rattle.ec_sessions.specs.OfRecall.HeldWants.{NoneFree}

same_key-sym : (a b : Key) → same_key a b ≡ same_key b a
same_key-sym a b = ap (λ c. c && (a.1 == b.1)) (eqb-sym a.0 b.0) ∙ ap (λ c. (b.0 == a.0) && c) (eqb-sym a.1 b.1)
  where
    eqb-sym : (m n : ℕ) → (m == n) ≡ (n == m)
    eqb-sym m n = grind arith

same_key-true : (a b : Key) → same_key a b ≡ true → a ≡ b
same_key-true a b e =
    let p = and_parts (a.0 == b.0) (a.1 == b.1) e in
    ap (λ c. (c, a.1)) (eqb-true a.0 b.0 p.0) ∙ ap (λ c. (b.0, c)) (eqb-true a.1 b.1 p.1)

-- The want as a further noting leaves it.
abbrev pub again : Hold → Want → Want
again h w = record w { hold = stronger w.hold h; told = [] }

module _ (s x : ℕ) (h : Hold) where
  pub noted_found : (es : List (Key × Want)) (w : Want) → IsKeyed es → lookup (same_key (s, x)) es ≡ Some w → values_of (set_value (same_key (s, x)) es (again h w)) ≡ noted s x h (values_of es)
  noted_found [] w keyed found = absurd (grind arith)
  noted_found (e ∷ es) w keyed found = go (same_key (s, x) e.0) (ap (same_key (s, x)) (sym keyed.0)) found (noted_found es w keyed.1)
    where
      go : (b : Bool) → is_of s x e.1 ≡ b → cond b (Some e.1) (lookup (same_key (s, x)) es) ≡ Some w → (lookup (same_key (s, x)) es ≡ Some w → values_of (set_value (same_key (s, x)) es (again h w)) ≡ noted s x h (values_of es))
          → values_of (cond b ((e.0, again h w) ∷ es) (e ∷ set_value (same_key (s, x)) es (again h w))) ≡ cond (is_of s x e.1) (again h e.1 ∷ values_of es) (e.1 ∷ noted s x h (values_of es))
      go true p f r = let same : e.1 ≡ w = (cc) in ap (λ v. again h v ∷ values_of es) (sym same) ∙ ap (λ b. cond b (again h e.1 ∷ values_of es) (e.1 ∷ noted s x h (values_of es))) (sym p)
      go false p f r = ap (λ l. e.1 ∷ l) (r f) ∙ ap (λ b. cond b (again h e.1 ∷ values_of es) (e.1 ∷ noted s x h (values_of es))) (sym p)

  pub keyed_again : (es : List (Key × Want)) (w : Want) → IsKeyed es → lookup (same_key (s, x)) es ≡ Some w → IsKeyed (set_value (same_key (s, x)) es (again h w))
  keyed_again [] w keyed found = tt
  keyed_again (e ∷ es) w keyed found = go (same_key (s, x) e.0) found (keyed_again es w keyed.1)
    where
      go : (b : Bool) → cond b (Some e.1) (lookup (same_key (s, x)) es) ≡ Some w → (lookup (same_key (s, x)) es ≡ Some w → IsKeyed (set_value (same_key (s, x)) es (again h w)))
          → IsKeyed (cond b ((e.0, again h w) ∷ es) (e ∷ set_value (same_key (s, x)) es (again h w)))
      go true f r = let same : e.1 ≡ w = (cc) in (keyed.0 ∙ ap key_of same, keyed.1)
      go false f r = (keyed.0, r f)

  abbrev pub fresh : Want
  fresh = record { session = s; obj = x; hold = h; told = [] }

  pub noted_absent : (es : List (Key × Want)) → IsKeyed es → lookup (same_key (s, x)) es ≡ None → noted s x h (values_of es) ≡ values_of es ++ fresh ∷ []
  noted_absent [] keyed none = refl
  noted_absent (e ∷ es) keyed none = go (same_key (s, x) e.0) (ap (same_key (s, x)) (sym keyed.0)) none (noted_absent es keyed.1)
    where
      go : (b : Bool) → is_of s x e.1 ≡ b → cond b (Some e.1) (lookup (same_key (s, x)) es) ≡ None → (lookup (same_key (s, x)) es ≡ None → noted s x h (values_of es) ≡ values_of es ++ fresh ∷ [])
          → cond (is_of s x e.1) (again h e.1 ∷ values_of es) (e.1 ∷ noted s x h (values_of es)) ≡ e.1 ∷ (values_of es ++ fresh ∷ [])
      go true p f r = absurd (grind arith)
      go false p f r = ap (λ b. cond b (again h e.1 ∷ values_of es) (e.1 ∷ noted s x h (values_of es))) p ∙ ap (λ l. e.1 ∷ l) (r f)

pub values-push : (es : List (Key × Want)) (k : Key) (w : Want) → values_of (es ++ (k, w) ∷ []) ≡ values_of es ++ w ∷ []
values-push [] k w = refl
values-push (e ∷ es) k w = ap (λ l. e.1 ∷ l) (values-push es k w)

pub keyed_push : (es : List (Key × Want)) (k : Key) (w : Want) → IsKeyed es → k ≡ key_of w → IsKeyed (es ++ (k, w) ∷ [])
keyed_push [] k w keyed is = (is, tt)
keyed_push (e ∷ es) k w keyed is = (keyed.0, keyed_push es k w keyed.1 is)

-- Some wants of a list, as a filter leaves them.

pub values-filter : (test : Want → Bool) (es : List (Key × Want)) → values_of (filter (λ e. test e.1) es) ≡ filter test (values_of es)
values-filter test [] = refl
values-filter test (e ∷ es) = go (test e.1) (values-filter test es)
  where
    go : (b : Bool) → values_of (filter (λ e. test e.1) es) ≡ filter test (values_of es) → values_of (cond b (e ∷ filter (λ e. test e.1) es) (filter (λ e. test e.1) es)) ≡ cond b (e.1 ∷ filter test (values_of es)) (filter test (values_of es))
    go true r = ap (λ l. e.1 ∷ l) r
    go false r = r

pub keyed_filter : (test : Want → Bool) (es : List (Key × Want)) → IsKeyed es → IsKeyed (filter (λ e. test e.1) es)
keyed_filter test [] keyed = tt
keyed_filter test (e ∷ es) keyed = go (test e.1) (keyed_filter test es keyed.1)
  where
    go : (b : Bool) → IsKeyed (filter (λ e. test e.1) es) → IsKeyed (cond b (e ∷ filter (λ e. test e.1) es) (filter (λ e. test e.1) es))
    go true r = (keyed.0, r)
    go false r = r

-- No two wants have one key.

pub keys-keyed : (es : List (Key × Want)) → IsKeyed es → keys_of es ≡ map key_of (values_of es)
keys-keyed [] keyed = refl
keys-keyed (e ∷ es) keyed = ap (λ k. k ∷ keys_of es) keyed.0 ∙ ap (λ l. key_of e.1 ∷ l) (keys-keyed es keyed.1)

pub absent_from_apart : (es : List (Key × Want)) (w : Want) (ws : List Want) → IsKeyed es → AreApart (values_of es ++ w ∷ ws) → lookup (same_key (key_of w)) es ≡ None
unfolding IsDistinct
absent_from_apart [] w ws keyed apart = refl
absent_from_apart (e ∷ es) w ws keyed apart = ap (λ b. cond b (Some e.1) (lookup (same_key (key_of w)) es)) other ∙ absent_from_apart es w ws keyed.1 apart.1
  where
    among : (l : List Want) → AllByRecursion (λ y. same_key (key_of e.1) y ≡ false) (map key_of (l ++ w ∷ ws)) → same_key (key_of e.1) (key_of w) ≡ false
    among [] a = a.0
    among (v ∷ vs) a = among vs a.1

    other : same_key (key_of w) e.0 ≡ false
    other = ap (same_key (key_of w)) keyed.0 ∙ same_key-sym (key_of w) (key_of e.1) ∙ among (values_of es) apart.0

-- The wants that stay have keys of the list.

pub apart_stays : (ts given : Tokens) (ws : List Want) → AreApart ws → AreApart (wants_from ts given ws)
unfolding IsDistinct
apart_stays ts given [] apart = apart
apart_stays ts given (w ∷ ws) apart = go (is_due ts given w) (apart_stays ts (given_after ts given w) ws apart.1)
  where
    others : (k : Key) (l : List Want) (g : Tokens) → AllByRecursion (λ y. same_key k y ≡ false) (map key_of l) → AllByRecursion (λ y. same_key k y ≡ false) (map key_of (wants_from ts g l))
    others k [] g all = tt
    others k (v ∷ vs) g all = by (is_due ts g v) (others k vs (given_after ts g v) all.1)
      where
        by : (b : Bool) → AllByRecursion (λ y. same_key k y ≡ false) (map key_of (wants_from ts (given_after ts g v) vs))
            → AllByRecursion (λ y. same_key k y ≡ false) (map key_of (cond b [] (record v { told = map told_of (conflicts ts v.session v.obj v.hold) } ∷ []) ++ wants_from ts (given_after ts g v) vs))
        by true r = r
        by false r = (all.0, r)

    go : (b : Bool) → AreApart (wants_from ts (given_after ts given w) ws)
        → AreApart (cond b [] (record w { told = map told_of (conflicts ts w.session w.obj w.hold) } ∷ []) ++ wants_from ts (given_after ts given w) ws)
    go true r = r
    go false r = (others (key_of w) ws (given_after ts given w) apart.0, r)

-- One more want under its key, where no two of all have one key.
pub keyed_more : (es new : List (Key × Want)) (k : Key) (w : Want) (ws all : List Want) → IsKeyed es → AreApart all → values_of es ++ w ∷ ws ≡ all → k ≡ key_of w
    → (lookup (same_key k) es ≡ None → new ≡ es ++ (k, w) ∷ []) → (values_of new ++ ws ≡ all) × IsKeyed new
keyed_more es new k w ws all keyed apart is key more =
    let none : lookup (same_key k) es ≡ None = ap (λ q. lookup (same_key q) es) key ∙ absent_from_apart es w ws keyed (subst AreApart (sym is) apart) in
    let new_is = more none in
    (ap (λ l. values_of l ++ ws) new_is ∙ ap (λ l. l ++ ws) (values-push es k w) ∙ append_assoc (values_of es) (w ∷ []) ws ∙ is, subst IsKeyed (sym new_is) (keyed_push es k w keyed key))

pub apart_from_unique : (es : List (Key × Want)) → IsKeyed es → IsDistinct same_key (keys_of es) → AreApart (values_of es)
apart_from_unique es keyed unique = subst (IsDistinct same_key) (keys-keyed es keyed) unique

-- No want is Free.

pub free_none : (ws : List Want) (i : ℕ) (w : Want) → NoneFree ws → i < length ws → w ≡ get_or ws i w → is_free w.hold ≡ false
free_none [] i w held within is = absurd (omega arith)
free_none (v ∷ ws) zero w held within is = ap (λ u. is_free u.hold) is ∙ held.0
free_none (v ∷ ws) (suc i) w held within is = free_none ws i w held.1 (omega arith) is

pub not_free : (h : Hold) → is_free h ≡ false → h ≢ Free
not_free h held is = absurd (grind (arith, ap is_free is, held))

pub held_free : (h : Hold) → h ≢ Free → is_free h ≡ false
held_free h differ = grind arith

stronger_held : (a b : Hold) → is_free a ≡ false → is_free (stronger a b) ≡ false
stronger_held a b held = grind (arith, held)

pub held_noted : (s x : ℕ) (h : Hold) (ws : List Want) → is_free h ≡ false → NoneFree ws → NoneFree (noted s x h ws)
held_noted s x h [] held none = (held, tt)
held_noted s x h (w ∷ ws) held none = go (is_of s x w) (held_noted s x h ws held none.1)
  where
    go : (b : Bool) → NoneFree (noted s x h ws) → NoneFree (cond b (again h w ∷ ws) (w ∷ noted s x h ws))
    go true later = (stronger_held w.hold h none.0, none.1)
    go false later = (none.0, later)

pub held_filter : (test : Want → Bool) (ws : List Want) → NoneFree ws → NoneFree (filter test ws)
held_filter test [] none = tt
held_filter test (w ∷ ws) none = go (test w) (held_filter test ws none.1)
  where
    go : (b : Bool) → NoneFree (filter test ws) → NoneFree (cond b (w ∷ filter test ws) (filter test ws))
    go true later = (none.0, later)
    go false later = later

pub held_stays : (ts given : Tokens) (ws : List Want) → NoneFree ws → NoneFree (wants_from ts given ws)
held_stays ts given [] none = tt
held_stays ts given (w ∷ ws) none = go (is_due ts given w) (held_stays ts (given_after ts given w) ws none.1)
  where
    go : (b : Bool) → NoneFree (wants_from ts (given_after ts given w) ws)
        → NoneFree (cond b [] (record w { told = map told_of (conflicts ts w.session w.obj w.hold) } ∷ []) ++ wants_from ts (given_after ts given w) ws)
    go true r = r
    go false r = (none.0, r)
