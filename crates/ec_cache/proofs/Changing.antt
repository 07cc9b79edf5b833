-- What an update leaves of the tokens on its operands.
use Rattle.std.proofs.Common.{◌≡◌, ◌∙◌, ◌++◌, ◌==◌, ℕ, T, List, [], ◌∷◌, Option, None, Some, Result, Ok, Err, Bool, true, false, not, cond, map, is_some, nat_eq, refl, sym, ap, subst, arith}
use Rattle.std.specs.Prelude.{◌&&◌, ◌||◌, ◌-◌, suc, if◌then◌else◌, option_map, length, take, drop, OnErr}
use Rattle.std.specs.List.{list_all}
use Rattle.std.specs.Result.{IsOk}
use Rattle.std.specs.Map.{lookup, set_value}
use Rattle.std.specs.Cmp.{unsigned_ties}
use Rattle.std.proofs.lemmas.Bool.Decides.{nat_tests}
use Rattle.ec_base.specs.Tables.{Table, at, without, renewed}
use Rattle.ec_base.specs.SortedLaws.{first, second, both}
use Rattle.ec_volume.specs.Image.{is_gone, is_id, new_object}
use Rattle.ec_volume.specs.Held.{is_held}
use Rattle.ec_volume.specs.Update.{operands, fits, effect, first_unfit, is_sound, member, distinct, listed}
use Rattle.ec_volume.specs.RoomWanted.{wants_room}
use Rattle.ec_volume.specs.declared.image.Kind.{Kind}
use Rattle.ec_volume.specs.declared.image.Kind.TheVariants as kind
use Rattle.ec_volume.specs.declared.image.Image.{Image}
use Rattle.ec_volume.specs.declared.image.Image.TheVariants.{Gone, File, Dir}
use Rattle.ec_volume.proofs.Within.{effect_held}
use Rattle.ec_volume.specs.declared.update.Update.{Update}
use Rattle.ec_volume.specs.declared.update.Update.TheVariants.{Make, Drop, Move, Put, Len, Mode, Stamp, Order, Shift, Owner}
use Rattle.ec_cache.specs.declared.state.Held.{Held}
use Rattle.ec_cache.specs.declared.state.CacheState.{CacheState}
use Rattle.ec_cache.specs.Cache.{change, change_at, held_image}
use Rattle.ec_cache.specs.Held.{IsCache, is_token, is_within, used_in, imaged, changed_at, changed_in, are_spare, is_shift}
use Rattle.ec_cache.proofs.Kept.{Slots, same, same-turned, same-itself, key-same, at-renewed, has-renewed, has-again, all-at, all-renewed, found-within, held-live}
use Rattle.ec_base.proofs.Numbers.{one-less}

-- One value of a table.
module _ (x : ℕ) (g : Held → Held) where
  abbrev one : ℕ × Held → ℕ × Held
  one e = if e.0 == x then (e.0, g e.1) else e

  here : (e : ℕ × Held) (b : Bool) → same x e.0 ≡ b → one e ≡ cond b (e.0, g e.1) e
  here e b t = ap (λ c. cond c (e.0, g e.1) e) (unsigned_ties e.0 x ∙ same-turned x e.0 ∙ t)

  key : (e : ℕ × Held) → (one e).0 ≡ e.0
  key e = elim (e.0 == x) as (λ b. (if b then (e.0, g e.1) else e).0 ≡ e.0) [ true ↦ refl | false ↦ refl ]

  at-one : (es : Table Held) → at x (map one es) ≡ option_map g (at x es)
  at-one [] = refl
  at-one (e ∷ es) = go (at-one es) (same x e.0) refl
    where
      go : at x (map one es) ≡ option_map g (at x es) → (b : Bool) → same x e.0 ≡ b → at x (map one (e ∷ es)) ≡ option_map g (at x (e ∷ es))
      go rest true t = ap (λ f. at x (f ∷ map one es)) (here e true t) ∙ rw t
      go rest false t = ap (λ f. at x (f ∷ map one es)) (here e false t) ∙ rw t rest

  none-one : (es : Table Held) → at x es ≡ None → map one es ≡ es
  none-one [] none = refl
  none-one (e ∷ es) none = go (none-one es) (same x e.0) refl
    where
      go : (at x es ≡ None → map one es ≡ es) → (b : Bool) → same x e.0 ≡ b → map one (e ∷ es) ≡ e ∷ es
      go rest true t = absurd (cc (sym (ap (λ b. cond b (Some e.1) (at x es)) t) ∙ none))
      go rest false t = (λ i. here e false t i ∷ map one es) ∙ ap (λ fs. e ∷ fs) (rest (sym (ap (λ b. cond b (Some e.1) (at x es)) t) ∙ none))

  without-one : (es : Table Held) → without x (map one es) ≡ without x es
  without-one [] = refl
  without-one (e ∷ es) = go (without-one es) (same x e.0) refl
    where
      go : without x (map one es) ≡ without x es → (b : Bool) → same x e.0 ≡ b → without x (map one (e ∷ es)) ≡ without x (e ∷ es)
      go rest true t = ap (λ f. without x (f ∷ map one es)) (here e true t) ∙ rw t rest
      go rest false t = ap (λ f. without x (f ∷ map one es)) (here e false t) ∙ rw t (ap (λ fs. e ∷ fs) rest)

  -- a value that changes, of the object that is used next
  used-one : (es : Table Held) → used_in x (map one es) (at x (map one es)) ≡ elim (at x es) [ None ↦ es | Some h ↦ renewed x (g h) es ]
  used-one es = ap (used_in x (map one es)) (at-one es) ∙ go (at x es) refl
    where
      go : (o : Option Held) → at x es ≡ o → used_in x (map one es) (option_map g o) ≡ elim o [ None ↦ es | Some h ↦ renewed x (g h) es ]
      go None is = none-one es is
      go (Some h) is = ap (λ fs. fs ++ (x, g h) ∷ []) (without-one es)

  -- at another object

  module _ (y : ℕ) (apart : same y x ≡ false) where
    at-other : (es : Table Held) → at y (map one es) ≡ at y es
    at-other [] = refl
    at-other (e ∷ es) = go (at-other es) (same x e.0) refl
      where
        go : at y (map one es) ≡ at y es → (b : Bool) → same x e.0 ≡ b → at y (map one (e ∷ es)) ≡ at y (e ∷ es)
        go rest true t =
            let off : same y e.0 ≡ false = ap (same y) (sym (key-same x e.0 t)) ∙ apart in
            ap (λ f. at y (f ∷ map one es)) (here e true t) ∙ rw off rest
        go rest false t = ap (λ f. at y (f ∷ map one es)) (here e false t) ∙ ap (cond (same y e.0) (Some e.1)) rest

    without-other : (es : Table Held) → without y (map one es) ≡ map one (without y es)
    without-other [] = refl
    without-other (e ∷ es) = ap (λ k. cond (not (same y k)) (one e ∷ without y (map one es)) (without y (map one es))) (key e) ∙ go (not (same y e.0)) (without-other es)
      where
        go : (b : Bool) → without y (map one es) ≡ map one (without y es) → cond b (one e ∷ without y (map one es)) (without y (map one es)) ≡ map one (cond b (e ∷ without y es) (without y es))
        go true rest = ap (λ fs. one e ∷ fs) rest
        go false rest = rest

map-last : (f : ℕ × Held → ℕ × Held) (es : Table Held) (e : ℕ × Held) → map f (es ++ e ∷ []) ≡ map f es ++ f e ∷ []
map-last f [] e = refl
map-last f (d ∷ es) e = ap (λ gs. f d ∷ gs) (map-last f es e)

pub changed-used : (u : Update) (x : ℕ) (es : Table Held) → used_in x (imaged u x es) (at x (imaged u x es)) ≡ changed_at u x es
changed-used u x es = used-one x (λ h. record h { image = effect u x h.image }) es

-- the image of one operand changes before or behind another operand
changed-imaged : (u : Update) (x y : ℕ) → (x == y) ≡ false → (es : Table Held) → changed_at u x (imaged u y es) ≡ imaged u y (changed_at u x es)
changed-imaged u x y apart es = ap (λ o. elim o as (λ _. Table Held) [ None ↦ imaged u y es | Some h ↦ renewed x (record h { image = effect u x h.image }) (imaged u y es) ]) (at-other y g x off es) ∙ go (at x es)
  where
    g : Held → Held
    g h = record h { image = effect u y h.image }

    off : same x y ≡ false
    off = sym (unsigned_ties x y) ∙ apart

    go : (o : Option Held) → elim o as (λ _. Table Held) [ None ↦ imaged u y es | Some h ↦ renewed x (record h { image = effect u x h.image }) (imaged u y es) ] ≡ imaged u y (elim o [ None ↦ es | Some h ↦ renewed x (record h { image = effect u x h.image }) es ])
    go None = refl
    go (Some h) =
        ap (λ fs. fs ++ (x, record h { image = effect u x h.image }) ∷ []) (without-other y g x off es)
        ∙ (λ i. map (one y g) (without x es) ++ sym (ap (λ b. if b then (x, g (record h { image = effect u x h.image })) else (x, record h { image = effect u x h.image })) apart) i ∷ [])
        ∙ sym (map-last (one y g) (without x es) (x, record h { image = effect u x h.image }))

-- the second of two operands changes first, and is used after the first one
pub second_first : (u : Update) (x y : ℕ) → (x == y) ≡ false → (es : Table Held) → used_in y (changed_at u x (imaged u y es)) (at y (changed_at u x (imaged u y es))) ≡ changed_at u y (changed_at u x es)
second_first u x y apart es = ap (λ fs. used_in y fs (at y fs)) (changed-imaged u x y apart es) ∙ changed-used u y (changed_at u x es)

-- the tokens of the whole change
pub change-held : (u : Update) (xs : List ℕ) (k : CacheState) → change u xs k ≡ record k { held = changed_in u xs k.held }
change-held u [] k = refl
change-held u (x ∷ xs) k = change-held u xs (change_at u x k) ∙ ap {A = CacheState} (λ j. record j { held = changed_in u xs j.held }) (at-one (at x k.held))
  where
    at-one : (o : Option Held) → elim o as (λ _. CacheState) [ None ↦ k | Some h ↦ record k { held = renewed x (record h { image = effect u x h.image }) k.held } ] ≡ record k { held = elim o [ None ↦ k.held | Some h ↦ renewed x (record h { image = effect u x h.image }) k.held ] }
    at-one None = refl
    at-one (Some h) = refl

-- a value that is put back
pub put-back : (x : ℕ) (h : Held) (es : Table Held) → lookup (nat_eq x) es ≡ Some h → set_value (nat_eq x) es h ≡ es
put-back x h [] found = absurd (cc found)
put-back x h (e ∷ es) found = go (put-back x h es) (nat_eq x e.0) refl
  where
    go : (lookup (nat_eq x) es ≡ Some h → set_value (nat_eq x) es h ≡ es) → (b : Bool) → nat_eq x e.0 ≡ b → cond (nat_eq x e.0) ((e.0, h) ∷ es) (e ∷ set_value (nat_eq x) es h) ≡ e ∷ es
    go rest true t =
        let value : e.1 ≡ h = let found' = sym (ap (λ c. cond c (Some e.1) (lookup (nat_eq x) es)) t) ∙ found in cc in
        ap (λ c. cond c ((e.0, h) ∷ es) (e ∷ set_value (nat_eq x) es h)) t ∙ ap (λ v. (e.0, v) ∷ es) (sym value)
    go rest false t =
        ap (λ c. cond c ((e.0, h) ∷ es) (e ∷ set_value (nat_eq x) es h)) t
        ∙ ap (λ fs. e ∷ fs) (rest (sym (ap (λ c. cond c (Some e.1) (lookup (nat_eq x) es)) t) ∙ found))

-- Which operands take no memory.

abbrev tail : List ℕ → List ℕ
tail [] = []
tail (x ∷ xs) = xs

abbrev head : List ℕ → ℕ
head [] = 0
head (x ∷ xs) = x

others : (d : ℕ) (xs : List ℕ) → T (not (member d xs)) → T (list_all (λ x. not (x == d)) xs)
others d [] n = tt
others d (x ∷ xs) n = go (others d xs) (x == d) (d == x) (turned x d) refl n
  where
    turned : (a b : ℕ) → (a == b) ≡ (b == a)
    turned a b = grind (arith, nat_tests)

    go : (T (not (member d xs)) → T (list_all (λ x. not (x == d)) xs)) → (a b : Bool) → a ≡ b → a ≡ (x == d) → T (not (b || member d xs)) → T (not (x == d) && list_all (λ x. not (x == d)) xs)
    go rest a true e is m = absurd m
    go rest a false e is m = both _ _ (subst (λ c. T (not c)) is (subst (λ c. T (not c)) (sym e) tt)) (rest m)

all-spare : (xs : List ℕ) → T (list_all (λ x. true) xs)
all-spare [] = tt
all-spare (x ∷ xs) = all-spare xs

-- all but the first, unless an object moves to another directory
pub spare_behind : (u : Update) (x : ℕ) (xs : List ℕ) → T (is_sound u) → is_shift u ≡ false → x ∷ xs ≡ operands u → T (are_spare u xs)
spare_behind u x xs s stays is = go u (ap tail is) s stays
  where
    go : (u : Update) → xs ≡ tail (operands u) → T (is_sound u) → is_shift u ≡ false → T (are_spare u xs)
    go (Make dir name obj k) e s stays = subst (λ ys. T (are_spare (Make dir name obj k) ys)) (sym e) (others dir (obj ∷ []) (first _ _ (first _ _ s)))
    go (Drop dir name obj k) e s stays = all-spare xs
    go (Move dir from to obj k victim) e s stays = subst (λ ys. T (are_spare (Move dir from to obj k victim) ys)) (sym e) (others dir (obj ∷ listed victim) (first _ _ (first _ _ s)))
    go (Put obj place bytes inside) e s stays = subst (λ ys. T (are_spare (Put obj place bytes inside) ys)) (sym e) tt
    go (Len obj len) e s stays = subst (λ ys. T (are_spare (Len obj len) ys)) (sym e) tt
    go (Mode obj mode) e s stays = all-spare xs
    go (Stamp obj stamp) e s stays = all-spare xs
    go (Order objs) e s stays = all-spare xs
    go (Shift dir from into to obj k victim up) e s stays = absurd (let t : true ≡ false = stays in cc)
    go (Owner obj owner) e s stays = all-spare xs

-- the two that are first where an object moves to another directory, and the ones behind them
pub shift_apart : (u : Update) (x y : ℕ) (xs : List ℕ) → T (is_sound u) → is_shift u ≡ true → x ∷ y ∷ xs ≡ operands u → (x == y) ≡ false
shift_apart u x y xs s is e = unlike (x == y) (member x xs) (first _ _ (subst (λ ys. T (distinct ys)) (sym e) (first _ _ s)))
  where
    unlike : (a b : Bool) → T (not (a || b)) → a ≡ false
    unlike true b t = absurd t
    unlike false b t = refl

pub shift_first : (u : Update) (x y : ℕ) (xs : List ℕ) → is_shift u ≡ true → x ∷ y ∷ xs ≡ operands u → wants_room u x ≡ false
shift_first (Shift dir from into to obj k victim up) x y xs is e = ap (λ z. not (z == dir) && (z == into)) same-one ∙ ap (λ b. not b && (dir == into)) (unsigned_ties dir dir ∙ same-itself dir)
  where
    same-one : x ≡ dir
    same-one = ap head e
shift_first (Make dir name obj k) x y xs is e = absurd (let t : false ≡ true = is in cc)
shift_first (Drop dir name obj k) x y xs is e = absurd (let t : false ≡ true = is in cc)
shift_first (Move dir from to obj k victim) x y xs is e = absurd (let t : false ≡ true = is in cc)
shift_first (Put obj at bytes inside) x y xs is e = absurd (let t : false ≡ true = is in cc)
shift_first (Len obj len) x y xs is e = absurd (let t : false ≡ true = is in cc)
shift_first (Mode obj mode) x y xs is e = absurd (let t : false ≡ true = is in cc)
shift_first (Stamp obj stamp) x y xs is e = absurd (let t : false ≡ true = is in cc)
shift_first (Order objs) x y xs is e = absurd (let t : false ≡ true = is in cc)
shift_first (Owner obj owner) x y xs is e = absurd (let t : false ≡ true = is in cc)

loosened : (p q : ℕ → Bool) → ((x : ℕ) → T (q x) → T (p x)) → (xs : List ℕ) → T (list_all q xs) → T (list_all p xs)
loosened p q to [] a = tt
loosened p q to (x ∷ xs) a = both _ _ (to x (first _ _ a)) (loosened p q to xs (second _ _ a))

pub shift_behind : (u : Update) (x y : ℕ) (xs : List ℕ) → T (is_sound u) → is_shift u ≡ true → x ∷ y ∷ xs ≡ operands u → T (are_spare u xs)
shift_behind (Shift dir from into to obj k victim up) x y xs s is e =
    loosened (λ z. not (not (z == dir) && (z == into))) (λ z. not (z == into)) (λ z. looser (z == dir) (z == into)) xs
    (subst (λ d. T (list_all (λ z. not (z == d)) xs)) (ap (λ zs. head (tail zs)) e) (others y xs (first _ _ (second _ _ (subst (λ ys. T (distinct ys)) (sym e) (first _ _ s))))))
  where
    looser : (a b : Bool) → T (not b) → T (not (not a && b))
    looser true b t = tt
    looser false b t = t
shift_behind (Make dir name obj k) x y xs s is e = absurd (let t : false ≡ true = is in cc)
shift_behind (Drop dir name obj k) x y xs s is e = absurd (let t : false ≡ true = is in cc)
shift_behind (Move dir from to obj k victim) x y xs s is e = absurd (let t : false ≡ true = is in cc)
shift_behind (Put obj at bytes inside) x y xs s is e = absurd (let t : false ≡ true = is in cc)
shift_behind (Len obj len) x y xs s is e = absurd (let t : false ≡ true = is in cc)
shift_behind (Mode obj mode) x y xs s is e = absurd (let t : false ≡ true = is in cc)
shift_behind (Stamp obj stamp) x y xs s is e = absurd (let t : false ≡ true = is in cc)
shift_behind (Order objs) x y xs s is e = absurd (let t : false ≡ true = is in cc)
shift_behind (Owner obj owner) x y xs s is e = absurd (let t : false ≡ true = is in cc)

-- the same of the rest of a slice

all-taken : (xs : List ℕ) → xs ≡ take (length xs) xs
all-taken [] = refl
all-taken (x ∷ xs) = ap (λ ys. x ∷ ys) (all-taken xs)

two-less : (n : ℕ) → n ≡ suc (suc n) - 2
two-less n = grind (arith)

pub rest_in_order : (u : Update) (ids : List ℕ) → T (is_sound u) → is_shift u ≡ false → ids ≡ operands u → T (are_spare u (take (length ids - 1) (drop 1 ids)))
rest_in_order u [] s stays e = tt
rest_in_order u (x ∷ xs) s stays e = subst (λ ys. T (are_spare u ys)) (all-taken xs ∙ ap (λ n. take n xs) (one-less (length xs))) (spare_behind u x xs s stays e)

pub rest_moving : (u : Update) (ids : List ℕ) → T (is_sound u) → is_shift u ≡ true → ids ≡ operands u → T (are_spare u (take (length ids - 2) (drop 2 ids)))
rest_moving u [] s is e = tt
rest_moving u (x ∷ []) s is e = tt
rest_moving u (x ∷ y ∷ xs) s is e = subst (λ ys. T (are_spare u ys)) (all-taken xs ∙ ap (λ n. take n xs) (two-less (length xs))) (shift_behind u x y xs s is e)

-- Images stay within the limits.

gone-within : (u : Update) (o : ℕ) → is_within (effect u o Gone) ≡ true
gone-within (Make dir name obj k) o = elim (o == dir) as (λ b. is_within (if b then Gone else new_object k) ≡ true) [ true ↦ refl | false ↦ new-within k ]
  where
    new-within : (k : Kind) → is_within (new_object k) ≡ true
    new-within kind.File = refl
    new-within kind.Dir = refl
gone-within (Drop dir name obj k) o = elim (o == dir) as (λ b. is_within (if b then Gone else Gone) ≡ true) [ true ↦ refl | false ↦ refl ]
gone-within (Move dir from to obj k victim) o = elim (o == dir) as (λ a. is_within (if a then Gone else (if o == obj then Gone else Gone)) ≡ true) [
  | true ↦ refl
  | false ↦ elim (o == obj) as (λ b. is_within (if b then Gone else Gone) ≡ true) [ true ↦ refl | false ↦ refl ]
]
gone-within (Put obj at bytes inside) o = refl
gone-within (Len obj len) o = refl
gone-within (Mode obj mode) o = refl
gone-within (Stamp obj stamp) o = refl
gone-within (Order objs) o = refl
gone-within (Shift dir from into to obj k victim up) o = three (o == dir) (o == into) (is_id o victim)
  where
    three : (a b c : Bool) → is_within (if a then Gone else if b then Gone else if c then Gone else Gone) ≡ true
    three true b c = refl
    three false true c = refl
    three false false true = refl
    three false false false = refl
gone-within (Owner obj owner) o = refl

effect-within : (u : Update) (o : ℕ) (i : Image) → T (is_sound u) → fits u o i ≡ true → is_within i ≡ true → is_within (effect u o i) ≡ true
effect-within u o i s f w = go (is_gone (effect u o i)) (is_gone i) refl refl
  where
    gone : (j : Image) → is_gone j ≡ true → j ≡ Gone
    gone Gone e = refl
    gone (File m s w bs) e = absurd (let t : false ≡ true = e in cc)
    gone (Dir m s w es) e = absurd (let t : false ≡ true = e in cc)

    go : (a b : Bool) → is_gone (effect u o i) ≡ a → is_gone i ≡ b → is_within (effect u o i) ≡ true
    go true b e f' = ap (λ c. c || is_held (effect u o i)) e
    go false true e f' = ap (λ j. is_within (effect u o j)) (gone i f') ∙ gone-within u o
    go false false e f' = ap (λ c. c || is_held (effect u o i)) e ∙ effect_held u o i s f (held-live i f' w) e

kept-changed-at : (u : Update) (x : ℕ) (es : Table Held) (room : Slots) → T (is_sound u) → fits u x (held_image (at x es)) ≡ true → IsCache es room → IsCache (changed_at u x es) room
kept-changed-at u x es room s f c = go (at x es) refl
  where
    go : (o : Option Held) → at x es ≡ o → IsCache (elim o [ None ↦ es | Some h ↦ renewed x (record h { image = effect u x h.image }) es ]) room
    go None is = c
    go (Some h) is =
        let token = all-at is_token x h es c.tokens is in
        let image = effect-within u x h.image s (ap (λ o. fits u x (held_image o)) (sym is) ∙ f) (found-within x h es room c is) in
        record {
          tokens = all-renewed is_token x (record h { image = effect u x h.image }) es c.tokens (both _ _ (first _ _ token) (subst T (sym image) tt));
          sorted = c.sorted;
          slots = λ q. c.slots q ∙ sym (has-renewed q x (record h { image = effect u x h.image }) es ∙ has-again q x es (ap is_some is));
        }

at-changed : (u : Update) (x y : ℕ) → same y x ≡ false → (es : Table Held) → at y (changed_at u x es) ≡ at y es
at-changed u x y apart es = go (at x es)
  where
    go : (o : Option Held) → at y (elim o as (λ _. Table Held) [ None ↦ es | Some h ↦ renewed x (record h { image = effect u x h.image }) es ]) ≡ at y es
    go None = refl
    go (Some h) = at-renewed y x (record h { image = effect u x h.image }) es ∙ ap (λ b. cond b (Some (record h { image = effect u x h.image })) (at y es)) apart

pub kept-changed : (u : Update) (v : ℕ → Image) (xs : List ℕ) (es : Table Held) (room : Slots) → T (is_sound u) → T (distinct xs) → first_unfit u v xs ≡ None → ((y : ℕ) → T (member y xs) → held_image (at y es) ≡ v y) → IsCache es room → IsCache (changed_in u xs es) room
kept-changed u v [] es room s d f shows c = c
kept-changed u v (x ∷ xs) es room s d f shows c =
    elim (fits u x (v x)) as (λ b. fits u x (v x) ≡ b → (if b then first_unfit u v xs else Some x) ≡ None → IsCache (changed_in u xs (changed_at u x es)) room) [
      | true ↦ λ t rest.
          kept-changed u v xs (changed_at u x es) room s (second _ _ d) rest
          (λ y m. ap held_image (at-changed u x y (off y m) es) ∙ shows y (later (y == x) (member y xs) m))
          (kept-changed-at u x es room s (ap (fits u x) (shows x (here-one x xs)) ∙ t) c)
      | false ↦ λ t rest. absurd (cc rest)
    ] refl f
  where
    later : (a b : Bool) → T b → T (a || b)
    later true b t = tt
    later false b t = t

    here-one : (x : ℕ) (xs : List ℕ) → T ((x == x) || member x xs)
    here-one x xs = subst (λ a. T (a || member x xs)) (sym (unsigned_ties x x ∙ same-itself x)) tt

    off : (y : ℕ) → T (member y xs) → same y x ≡ false
    off y m = go (same y x) refl
      where
        go : (b : Bool) → same y x ≡ b → same y x ≡ false
        go false t = t
        go true t = absurd (subst (λ k. T (not (member k xs)) → T (member y xs) → ⊥) (key-same y x t) (clash (member y xs)) (first _ _ d) m)
          where
            clash : (b : Bool) → T (not b) → T b → ⊥
            clash true n p = n
            clash false n p = p

pub rest_spare : (u : Update) (x : ℕ) (xs : List ℕ) → T (are_spare u (x ∷ xs)) → T (are_spare u xs)
rest_spare u x xs s = second _ _ s

-- what takes no memory comes through
pub ok_spare : {A E : Type 0} (r : Result A E) (b : Bool) → OnErr r (b ≡ true) → b ≡ false → IsOk r
ok_spare (Ok a) b e n = refl
ok_spare (Err y) b e n = absurd (let t : true ≡ false = sym e ∙ n in cc)

pub ok_listed : {A E : Type 0} (u : Update) (x : ℕ) (xs : List ℕ) (r : Result A E) → OnErr r (wants_room u x ≡ true) → T (are_spare u (x ∷ xs)) → IsOk r
ok_listed u x xs r e s = ok_spare r (wants_room u x) e (unlike (wants_room u x) (first _ _ s))
  where
    unlike : (b : Bool) → T (not b) → b ≡ false
    unlike true t = absurd t
    unlike false t = refl
