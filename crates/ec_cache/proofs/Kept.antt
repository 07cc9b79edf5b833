-- What holds of each cache stays so, whatever call changes it.
use Rattle.std.proofs.Common.{◌≡◌, ◌∙◌, ◌++◌, ℕ, T, [], ◌∷◌, Option, None, Some, Bool, true, false, not, cond, map, filter, is_some, Bor, ◌≤◌, refl, sym, ap, subst, arith}
use Rattle.std.specs.Prelude.{◌==◌, ◌||◌, if◌then◌else◌, nat_le, option_map, option_copied}
use Rattle.std.specs.List.{list_all}
use Rattle.std.specs.declared.cmp.Ordering.TheVariants.{Equal}
use Rattle.std.specs.Ordering.{nat_cmp, eq_by_cmp, is_eq}
use Rattle.std.specs.Cmp.{nat_cmp_total, eq_by_cmp_equiv}
use Rattle.std.proofs.lemmas.Cmp.{tied_itself}
use Rattle.std.proofs.lemmas.Bool.Decides.{nat_tests}
use Rattle.std.specs.FinMap.Entries.{find-put, find-append, find-where_key, is_sorted-put, is_sorted-where_key}
use Rattle.ec_base.specs.Tables.{Table, at, put, without, renewed}
use Rattle.ec_base.specs.SortedLaws.{first, second, both, find-without}
use Rattle.ec_base.specs.declared.ids.Hold.{Hold}
use Rattle.ec_cache.specs.declared.state.Held.{Held}
use Rattle.ec_base.specs.Holds.{weaker}
use Rattle.ec_volume.specs.Image.{is_gone}
use Rattle.ec_volume.specs.Held.{is_held}
use Rattle.ec_volume.specs.declared.image.Image.{Image}
use Rattle.ec_volume.specs.declared.image.Image.TheVariants.{Gone, File, Dir}
use Rattle.ec_cache.specs.Cache.{held_image, lowered}
use Rattle.ec_cache.specs.Held.{IsCache, is_token, is_within, image_of, used_in}

abbrev pub same : ℕ → ℕ → Bool
same q k = eq_by_cmp nat_cmp q k

pub same-turned : (q k : ℕ) → same k q ≡ same q k
same-turned q k = (eq_by_cmp_equiv nat_cmp_total).symm k q

pub same-itself : (k : ℕ) → same k k ≡ true
same-itself k = ap is_eq (tied_itself nat_cmp_total k)

pub key-same : (q k : ℕ) → same q k ≡ true → q ≡ k
key-same q k t = grind (arith, nat_tests, t)

is_some-cond : {A : Type 0} (b : Bool) (x y : Option A) → is_some (cond b x y) ≡ cond b (is_some x) (is_some y)
is_some-cond true x y = refl
is_some-cond false x y = refl

hidden : {A : Type 0} (b : Bool) (x y z : A) → cond b x (cond b y z) ≡ cond b x z
hidden true x y z = refl
hidden false x y z = refl

both-so : (b c d : Bool) → (b ≡ true → c ≡ d) → cond b c d ≡ d
both-so true c d h = h refl
both-so false c d h = refl

alike : (p : ℕ → Bool) (q x : ℕ) → nat_cmp q x ≡ Equal → p x ≡ p q
alike p q x t = ap p (sym (key-same q x (ap is_eq t)))

-- What is found behind a change.

module _ {X : Type 0} where
  pub at-renewed : (q k : ℕ) (v : X) (es : Table X) → at q (renewed k v es) ≡ cond (same q k) (Some v) (at q es)
  at-renewed q k v es =
      find-append nat_cmp nat_cmp_total (without k es) k v q (find-without nat_cmp nat_cmp_total k k es ∙ ap (λ b. cond b None (at k es)) (same-itself k))
      ∙ ap (cond (same q k) (Some v)) (find-without nat_cmp nat_cmp_total q k es ∙ ap (λ b. cond b None (at q es)) (same-turned q k))
      ∙ hidden (same q k) (Some v) None (at q es)

  pub has-renewed : (q k : ℕ) (v : X) (es : Table X) → is_some (at q (renewed k v es)) ≡ cond (same q k) true (is_some (at q es))
  has-renewed q k v es = ap is_some (at-renewed q k v es) ∙ is_some-cond (same q k) (Some v) (at q es)

  pub has-put : (q k : ℕ) (v : X) (es : Table X) → is_some (at q (put k v es)) ≡ cond (same q k) true (is_some (at q es))
  has-put q k v es = ap is_some (find-put nat_cmp nat_cmp_total q k v es) ∙ is_some-cond (same q k) (Some v) (at q es)

  pub has-filter : (p : ℕ → Bool) (q : ℕ) (es : Table X) → is_some (at q (filter (λ e. p e.0) es)) ≡ cond (p q) (is_some (at q es)) false
  has-filter p q es = ap is_some (find-where_key nat_cmp p q (alike p q) es) ∙ is_some-cond (p q) (at q es) None

  pub has-map : (f : ℕ × X → ℕ × X) → ((e : ℕ × X) → (f e).0 ≡ e.0) → (q : ℕ) (es : Table X) → is_some (at q (map f es)) ≡ is_some (at q es)
  has-map f keeps q [] = refl
  has-map f keeps q (e ∷ es) =
      is_some-cond (same q (f e).0) (Some (f e).1) (at q (map f es))
      ∙ ap (λ k. cond (same q k) true (is_some (at q (map f es)))) (keeps e)
      ∙ ap (cond (same q e.0) true) (has-map f keeps q es)
      ∙ sym (is_some-cond (same q e.0) (Some e.1) (at q es))

  -- the key is there already
  pub has-again : (q k : ℕ) (es : Table X) → is_some (at k es) ≡ true → cond (same q k) true (is_some (at q es)) ≡ is_some (at q es)
  has-again q k es there = both-so (same q k) true (is_some (at q es)) (λ t. sym (ap (λ j. is_some (at j es)) (key-same q k t) ∙ there))

  module _ (test : ℕ × X → Bool) where
    pub all-filter : (p : ℕ × X → Bool) (es : Table X) → T (list_all test es) → T (list_all test (filter p es))
    all-filter p [] a = tt
    all-filter p (e ∷ es) a =
        let rest = all-filter p es (second _ _ a) in
        elim (p e) as (λ b. T (list_all test (cond b (e ∷ filter p es) (filter p es)))) [ true ↦ both _ _ (first _ _ a) rest | false ↦ rest ]

    pub all-last : (es : Table X) (e : ℕ × X) → T (list_all test es) → T (test e) → T (list_all test (es ++ e ∷ []))
    all-last [] e a h = both _ _ h tt
    all-last (f ∷ es) e a h = both _ _ (first _ _ a) (all-last es e (second _ _ a) h)

    pub all-map : (f : ℕ × X → ℕ × X) → ((e : ℕ × X) → T (test e) → T (test (f e))) → (es : Table X) → T (list_all test es) → T (list_all test (map f es))
    all-map f keeps [] a = tt
    all-map f keeps (e ∷ es) a = both _ _ (keeps e (first _ _ a)) (all-map f keeps es (second _ _ a))

    pub all-renewed : (k : ℕ) (v : X) (es : Table X) → T (list_all test es) → T (test (k, v)) → T (list_all test (renewed k v es))
    all-renewed k v es a h = all-last (without k es) (k, v) (all-filter (λ e. not (same k e.0)) es a) h

    -- what is found passes the test
    pub all-at : (k : ℕ) (v : X) (es : Table X) → T (list_all test es) → at k es ≡ Some v → T (test (k, v))
    all-at k v [] a is = absurd (cc is)
    all-at k v (e ∷ es) a is = go (all-at k v es (second _ _ a)) (same k e.0) refl
      where
        go : (at k es ≡ Some v → T (test (k, v))) → (b : Bool) → same k e.0 ≡ b → T (test (k, v))
        go rest true t =
            let value : e.1 ≡ v = let is' = sym (ap (λ b. cond b (Some e.1) (at k es)) t) ∙ is in cc in
            subst (λ j. T (test (j, v))) (sym (key-same k e.0 t)) (subst (λ w. T (test (e.0, w))) value (first _ _ a))
        go rest false t = rest (sym (ap (λ b. cond b (Some e.1) (at k es)) t) ∙ is)

-- Caches.

from-one : (x : ℕ) → 1 ≤ x → nat_le 1 x ≡ true
from-one x h = grind (arith, nat_tests, h)

abbrev pub Slots : Type 0
Slots = Table (Option Hold)

pub moved : {es fs : Table Held} {slots others : Slots} → fs ≡ es → others ≡ slots → IsCache es slots → IsCache fs others
moved {es = es} {fs = fs} {slots = slots} {others = others} p q c = subst (λ ts. IsCache ts others) (sym p) (subst (IsCache es) (sym q) c)

pub a-token : (x : ℕ) (h : Held) → 1 ≤ x → is_within h.image ≡ true → T (is_token (x, h))
a-token x h one within = both _ _ (subst T (sym (from-one x one)) tt) (subst T (sym within) tt)

pub kept-take : (x : ℕ) (h : Held) (es : Table Held) (slots : Slots) → T (is_token (x, h)) → IsCache es slots → IsCache (renewed x h es) (put x None slots)
kept-take x h es slots is c = record {
  tokens = all-renewed is_token x h es c.tokens is;
  sorted = is_sorted-put nat_cmp nat_cmp_total x None slots c.sorted;
  slots = λ q. has-put q x None slots ∙ ap (cond (same q x) true) (c.slots q) ∙ sym (has-renewed q x h es);
}

-- only the tokens of some objects stay
pub kept-filter : (p : ℕ → Bool) (es : Table Held) (slots : Slots) → IsCache es slots → IsCache (filter (λ e. p e.0) es) (filter (λ e. p e.0) slots)
kept-filter p es slots c = record {
  tokens = all-filter is_token (λ e. p e.0) es c.tokens;
  sorted = is_sorted-where_key nat_cmp p slots c.sorted;
  slots = λ q. has-filter p q slots ∙ ap (λ b. cond (p q) b false) (c.slots q) ∙ sym (has-filter p q es);
}

pub kept-without : (x : ℕ) (es : Table Held) (slots : Slots) → IsCache es slots → IsCache (without x es) (without x slots)
kept-without x es slots c = kept-filter (λ k. not (same x k)) es slots c

-- something else goes into a slot
pub kept-slot : (x : ℕ) (o : Option Hold) (es : Table Held) (slots : Slots) → is_some (at x slots) ≡ true → IsCache es slots → IsCache es (put x o slots)
kept-slot x o es slots there c = record {
  tokens = c.tokens;
  sorted = is_sorted-put nat_cmp nat_cmp_total x o slots c.sorted;
  slots = λ q. has-put q x o slots ∙ has-again q x slots there ∙ c.slots q;
}

-- the tokens keep their objects
pub kept-map : (f : ℕ × Held → ℕ × Held) → ((e : ℕ × Held) → (f e).0 ≡ e.0) → ((e : ℕ × Held) → T (is_token e) → T (is_token (f e))) → (es : Table Held) (slots : Slots) → IsCache es slots → IsCache (map f es) slots
kept-map f keeps holds es slots c = record {
  tokens = all-map is_token f holds es c.tokens;
  sorted = c.sorted;
  slots = λ q. c.slots q ∙ sym (has-map f keeps q es);
}

pub kept-used : (x : ℕ) (es : Table Held) (slots : Slots) → IsCache es slots → IsCache (used_in x es (at x es)) slots
kept-used x es slots c = go (at x es) refl
  where
    go : (o : Option Held) → at x es ≡ o → IsCache (used_in x es o) slots
    go None is = c
    go (Some h) is = record {
      tokens = all-renewed is_token x h es c.tokens (all-at is_token x h es c.tokens is);
      sorted = c.sorted;
      slots = λ q. c.slots q ∙ sym (has-renewed q x h es ∙ has-again q x es (ap is_some is));
    }

-- a slot that is emptied, if there is one
pub kept-clear : (x : ℕ) (es : Table Held) (slots others : Slots) → (is_some (at x slots) ≡ true → others ≡ put x None slots) → (at x slots ≡ None → others ≡ slots) → IsCache es slots → IsCache es others
kept-clear x es slots others there absent c = go (at x slots) refl
  where
    go : (o : Option (Option Hold)) → at x slots ≡ o → IsCache es others
    go None is = subst (IsCache es) (sym (absent is)) c
    go (Some o) is = subst (IsCache es) (sym (there (ap is_some is))) (kept-slot x None es slots (ap is_some is) c)

pub lowered-token : (x : ℕ) (to : Hold) (e : ℕ × Held) → T (is_token e) → T (is_token (if e.0 == x then (e.0, record (e.1) { hold = weaker to (e.1).hold }) else e))
lowered-token x to e t = elim (e.0 == x) as (λ b. T (is_token (if b then (e.0, record (e.1) { hold = weaker to (e.1).hold }) else e))) [ true ↦ t | false ↦ t ]

lowered-key : (x : ℕ) (to : Hold) (e : ℕ × Held) → (if e.0 == x then (e.0, record (e.1) { hold = weaker to (e.1).hold }) else e).0 ≡ e.0
lowered-key x to e = elim (e.0 == x) as (λ b. (if b then (e.0, record (e.1) { hold = weaker to (e.1).hold }) else e).0 ≡ e.0) [ true ↦ refl | false ↦ refl ]

pub kept-lowered : (x : ℕ) (to : Hold) (es : Table Held) (slots : Slots) → IsCache es slots → IsCache (lowered x to es) slots
kept-lowered x to es slots c = kept-map (λ e. if e.0 == x then (e.0, record (e.1) { hold = weaker to (e.1).hold }) else e) (lowered-key x to) (lowered-token x to) es slots c

-- Images.

pub found-within : (x : ℕ) (h : Held) (es : Table Held) (slots : Slots) → IsCache es slots → at x es ≡ Some h → is_within h.image ≡ true
found-within x h es slots c is = told _ (second _ _ (all-at is_token x h es c.tokens is))
  where
    told : (b : Bool) → T b → b ≡ true
    told true t = refl
    told false t = absurd t

pub live : (i : Image) → ¬ (i ≡ Gone) → is_gone i ≡ false
live Gone n = absurd (n refl)
live (File m s w bs) n = refl
live (Dir m s w es) n = refl

pub held-live : (i : Image) → is_gone i ≡ false → is_within i ≡ true → is_held i ≡ true
held-live i n within = sym (ap (λ b. b || is_held i) n) ∙ within

pub shown : (o : Option Held) (i : Image) → option_map image_of o ≡ Some i → held_image o ≡ i
shown None i is = absurd (cc is)
shown (Some h) i is = cc

pub unshown : (o : Option Held) → option_map image_of o ≡ None → held_image o ≡ Gone
unshown None is = refl
unshown (Some h) is = absurd (cc is)

pub unheld : {A : Type 0} (o : Option (Bor A)) → is_some o ≡ false → option_copied o ≡ None
unheld None is = refl
unheld (Some r) is = absurd (cc is)
