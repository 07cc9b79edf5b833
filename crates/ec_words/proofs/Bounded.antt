-- A call that words spell is within the bounds of calls.
use Rattle.std.proofs.Common.{◌≡◌, ℕ, zero, suc, ◌+◌, ◌*◌, ◌≤◌, ◌-◌, List, [], ◌∷◌, length, Option, Some, None, Bool, true, false, refl, sym, subst, arith}
use Rattle.std.specs.Prelude.{T, ◌&&◌, nat_le, ltb, if◌then◌else◌}
use Rattle.std.specs.List.{list_all}
use Rattle.std.proofs.lemmas.Bool.{le-leb, leb-true, ltb-true}
use Rattle.std.proofs.lemmas.Float.{T_from_true}
use Rattle.ec_base.specs.Limits.{max_path_names}
use Rattle.ec_base.specs.Names.{path_fault, path_names, names_fault, name_fault, or_later, is_slash}
use Rattle.ec_base.specs.declared.name.NameFault.{NameFault}
use Rattle.ec_base.specs.declared.name.PathFault.{PathFault}
use Rattle.ec_base.specs.declared.name.PathFault.TheVariants as unread
use Rattle.ec_volume.specs.Limits.{max_mode, max_write_bytes, max_ordered}
use Rattle.ec_plain.specs.Walk.{Path}
use Rattle.ec_plain.specs.Bounds.{max_read_bytes}
use Rattle.ec_plain.specs.BoundedCalls.{is_bounded, is_short}
use Rattle.ec_plain.specs.declared.call.Call.{Call}
use Rattle.ec_plain.specs.declared.call.Call.TheVariants as call
use Rattle.ec_words.specs.declared.name.Verb.{Verb}
use Rattle.ec_words.specs.declared.name.Verb.TheVariants as verb
use Rattle.ec_words.specs.Rows.{Word, ◌▸◌, Last, UpTo}
use Rattle.ec_words.specs.Spelling.{IsPathText, IsSmallNumber, IsNumber, IsText, IsCount, IsMode, is_octal, mode_of}
use Rattle.ec_words.specs.Calls.{Asks, SpellsCall}
use Rattle.ec_base.proofs.Options.{one_entry}
use Rattle.ec_base.proofs.Bools.{and_both}

-- Truths.

and_three : (a b c : Bool) → a ≡ true → b ≡ true → c ≡ true → (a && b && c) ≡ true
and_three a b c e f g = rw (e, f, g) refl

-- Rows, by what holds of each word's value.

last_so : {V : Type 0} (P : Word → V → Type 0) (Q : V → Type 0) → ((w : Word) (v : V) → P w v → Q v) → (ws : List Word) (v : V) → Last P ws v → Q v
last_so P Q so [] v g = absurd g
last_so P Q so (w ∷ ws) v g = so w v g.0

first_so : {V X : Type 0} (P : Word → V → Type 0) (G : List Word → X → Type 0) (Q : V → Type 0) → ((w : Word) (v : V) → P w v → Q v) → (ws : List Word) (x : V × X) → (P ▸ G) ws x → Q (x.0)
first_so P G Q so [] x g = absurd g
first_so P G Q so (w ∷ ws) x g = so w (x.0) g.0

rest_so : {V X : Type 0} (P : Word → V → Type 0) (G : List Word → X → Type 0) (Q : X → Type 0) → ((ws : List Word) (x : X) → G ws x → Q x) → (ws : List Word) (x : V × X) → (P ▸ G) ws x → Q (x.1)
rest_so P G Q so [] x g = absurd g
rest_so P G Q so (w ∷ ws) x g = so ws (x.1) g.1

few : {V : Type 0} (P : Word → V → Type 0) (n : ℕ) (ws : List Word) (vs : List V) → UpTo P n ws vs → length vs ≤ n
few P zero ws vs g = subst (λ us. length us ≤ 0) (sym g.1) (omega arith)
few P (suc n) [] vs g = subst (λ us. length us ≤ suc n) (sym g) (omega arith)
few P (suc n) (w ∷ ws) [] g = absurd g
few P (suc n) (w ∷ ws) (v ∷ vs) g = let le : length vs ≤ n = few P n ws vs g.1 in omega (arith, le)

each_so : {V : Type 0} (P : Word → V → Type 0) (q : V → Bool) → ((w : Word) (v : V) → P w v → q v ≡ true) → (n : ℕ) (ws : List Word) (vs : List V) → UpTo P n ws vs → list_all q vs ≡ true
each_so P q so zero ws vs g = subst (λ us. list_all q us ≡ true) (sym g.1) refl
each_so P q so (suc n) [] vs g = subst (λ us. list_all q us ≡ true) (sym g) refl
each_so P q so (suc n) (w ∷ ws) [] g = absurd g
each_so P q so (suc n) (w ∷ ws) (v ∷ vs) g = and_both (q v) (list_all q vs) (so w v g.0) (each_so P q so n ws vs g.1)

-- Paths.

later_none : (k : ℕ) (f : Option NameFault) (later : Option PathFault) → or_later k f later ≡ None → later ≡ None
later_none k (Some f) later e = let d : Some (unread.Name k f) ≡ None = e in absurd cc
later_none k None later e = e

names_few : (k : ℕ) (ns : List (List ℕ)) → k ≤ max_path_names → names_fault k ns ≡ None → k + length ns ≤ max_path_names
names_few k [] le e = omega (arith, le)
names_few k (n ∷ ns) le e =
    elim (ltb k max_path_names) as (λ t. ltb k max_path_names ≡ t → (if t then or_later (k + 1) (name_fault n) (names_fault (k + 1) ns) else Some unread.Deep) ≡ None → k + length (n ∷ ns) ≤ max_path_names) [
      | true ↦ λ is none.
          let more : k + 1 + length ns ≤ max_path_names = names_few (k + 1) ns (omega (arith, ltb-true k max_path_names is)) (later_none (k + 1) (name_fault n) (names_fault (k + 1) ns) none) in
          omega (arith, more)
      | false ↦ λ is none. let d : Some unread.Deep ≡ None = none in absurd cc
    ] refl e

path_few : (bytes : List ℕ) → path_fault bytes ≡ None → length (path_names bytes) ≤ max_path_names
path_few [] e = omega arith
path_few (b ∷ bs) e =
    elim (is_slash b) as (λ t. (if t then names_fault 0 (path_names (b ∷ bs)) else Some unread.NotRooted) ≡ None → length (path_names (b ∷ bs)) ≤ max_path_names) [
      | true ↦ λ none. let few : 0 + length (path_names (b ∷ bs)) ≤ max_path_names = names_few 0 (path_names (b ∷ bs)) (omega arith) none in omega (arith, few)
      | false ↦ λ none. let d : Some unread.NotRooted ≡ None = none in absurd cc
    ] e

pub path_short : (w : Word) (p : Path) → IsPathText w p → is_short p ≡ true
path_short w p g = subst (λ q. is_short q ≡ true) (sym g.1.1.1) (le-leb (length (path_names g.0)) max_path_names (path_few g.0 g.1.1.0))

-- Modes.

and_right : (a b : Bool) → (a && b) ≡ true → b ≡ true
and_right true b e = e
and_right false b e = let f : false ≡ true = e in absurd cc

and_left : (a b : Bool) → (a && b) ≡ true → a ≡ true
and_left true b e = refl
and_left false b e = let f : false ≡ true = e in absurd cc

and_four : (a b c d : Bool) → (a && b && c && d) ≡ true → (a ≡ true) × ((b ≡ true) × ((c ≡ true) × (d ≡ true)))
and_four true true true true e = (refl, (refl, (refl, refl)))
and_four true true true false e = let f : false ≡ true = e in absurd cc
and_four true true false d e = let f : false ≡ true = e in absurd cc
and_four true false c d e = let f : false ≡ true = e in absurd cc
and_four false b c d e = let f : false ≡ true = e in absurd cc

octal : (b : ℕ) → is_octal b ≡ true → b ≤ 55
octal b e = omega (arith, leb-true b 55 (and_right (nat_le 48 b) (nat_le b 55) e))

mode_four : (a b c d m : ℕ) → (if is_octal a && is_octal b && is_octal c && is_octal d then Some ((a - 48) * 512 + (b - 48) * 64 + (c - 48) * 8 + (d - 48)) else None) ≡ Some m → m ≤ max_mode
mode_four a b c d m e =
    elim (is_octal a && is_octal b && is_octal c && is_octal d) as (λ t. (is_octal a && is_octal b && is_octal c && is_octal d) ≡ t → (if t then Some ((a - 48) * 512 + (b - 48) * 64 + (c - 48) * 8 + (d - 48)) else None) ≡ Some m → m ≤ max_mode) [
      | true ↦ λ all is.
          let four = and_four (is_octal a) (is_octal b) (is_octal c) (is_octal d) all in
          let value : (a - 48) * 512 + (b - 48) * 64 + (c - 48) * 8 + (d - 48) ≡ m = one_entry ((a - 48) * 512 + (b - 48) * 64 + (c - 48) * 8 + (d - 48)) m is in
          omega (arith, value, octal a four.0, octal b four.1.0, octal c four.1.1.0, octal d four.1.1.1)
      | false ↦ λ all is. let f : None ≡ Some m = is in absurd cc
    ] refl e

mode_of_small : (w : Word) (m : ℕ) → mode_of w ≡ Some m → m ≤ max_mode
mode_of_small [] m e = let f : None ≡ Some m = e in absurd cc
mode_of_small (a ∷ []) m e = let f : None ≡ Some m = e in absurd cc
mode_of_small (a ∷ b ∷ []) m e = let f : None ≡ Some m = e in absurd cc
mode_of_small (a ∷ b ∷ c ∷ []) m e = let f : None ≡ Some m = e in absurd cc
mode_of_small (a ∷ b ∷ c ∷ d ∷ []) m e = mode_four a b c d m e
mode_of_small (a ∷ b ∷ c ∷ d ∷ x ∷ w) m e = let f : None ≡ Some m = e in absurd cc

mode_small : (w : Word) (m : ℕ) → IsMode w m → nat_le m max_mode ≡ true
mode_small w m g = le-leb m max_mode (mode_of_small w m g)

-- Calls.

abbrev Short : Path → Type 0
Short p = is_short p ≡ true

abbrev Few : ℕ → Type 0
Few n = nat_le n max_read_bytes ≡ true

abbrev Fits : List ℕ → Type 0
Fits bytes = (nat_le 1 (length bytes) ≡ true) × (nat_le (length bytes) max_write_bytes ≡ true)

text_fits : (w : Word) (bytes : List ℕ) → IsText w bytes → Fits bytes
text_fits w bytes g = (le-leb 1 (length bytes) g.1.0, le-leb (length bytes) max_write_bytes g.1.1)

count_few : (w : Word) (n : ℕ) → IsCount w n → Few n
count_few w n g = le-leb n max_read_bytes g.1.1

ordered : (p : Path) (ps : List Path) → is_short p ≡ true → length ps ≤ max_ordered - 1 → list_all is_short ps ≡ true → is_bounded (call.Forder (p ∷ ps)) ≡ true
ordered p ps short n each = and_three (nat_le 1 (length (p ∷ ps))) (nat_le (length (p ∷ ps)) max_ordered) (list_all is_short (p ∷ ps)) (le-leb 1 (length (p ∷ ps)) (omega arith)) (le-leb (length (p ∷ ps)) max_ordered (omega (arith, n))) (and_both (is_short p) (list_all is_short ps) short each)

pub asked_bounded : (v : Verb) (ws : List Word) (a : Call) → Asks v ws a → is_bounded a ≡ true
asked_bounded verb.Mkdir ws a g = subst (λ c. is_bounded c ≡ true) g.1.1 (last_so IsPathText Short path_short ws g.0 g.1.0)
asked_bounded verb.Create ws a g = subst (λ c. is_bounded c ≡ true) g.1.1 (last_so IsPathText Short path_short ws g.0 g.1.0)
asked_bounded verb.Write ws a g = subst (λ c. is_bounded c ≡ true) g.1.1 (
    let p = first_so IsPathText (IsSmallNumber ▸ Last IsText) Short path_short ws g.0 g.1.0 in
    let t = rest_so IsPathText (IsSmallNumber ▸ Last IsText) (λ x. Fits (x.1)) (rest_so IsSmallNumber (Last IsText) Fits (last_so IsText Fits text_fits)) ws g.0 g.1.0 in
    and_three (is_short g.0.0) (nat_le 1 (length g.0.1.1)) (nat_le (length g.0.1.1) max_write_bytes) p t.0 t.1)
asked_bounded verb.SetLen ws a g = subst (λ c. is_bounded c ≡ true) g.1.1 (first_so IsPathText (Last IsSmallNumber) Short path_short ws g.0 g.1.0)
asked_bounded verb.Read ws a g = subst (λ c. is_bounded c ≡ true) g.1.1 (
    let p = first_so IsPathText (IsSmallNumber ▸ Last IsCount) Short path_short ws g.0 g.1.0 in
    let n = rest_so IsPathText (IsSmallNumber ▸ Last IsCount) (λ x. nat_le (x.1) max_read_bytes ≡ true) (rest_so IsSmallNumber (Last IsCount) Few (last_so IsCount Few count_few)) ws g.0 g.1.0 in
    and_both (is_short g.0.0) (nat_le g.0.1.1 max_read_bytes) p n)
asked_bounded verb.Chmod ws a g = subst (λ c. is_bounded c ≡ true) g.1.1 (
    let p = first_so IsPathText (Last IsMode) Short path_short ws g.0 g.1.0 in
    let m = rest_so IsPathText (Last IsMode) (λ m. nat_le m max_mode ≡ true) (last_so IsMode (λ m. nat_le m max_mode ≡ true) mode_small) ws g.0 g.1.0 in
    and_both (is_short g.0.0) (nat_le g.0.1 max_mode) p m)
asked_bounded verb.Touch ws a g = subst (λ c. is_bounded c ≡ true) g.1.1 (first_so IsPathText (Last IsNumber) Short path_short ws g.0 g.1.0)
asked_bounded verb.Stat ws a g = subst (λ c. is_bounded c ≡ true) g.1.1 (last_so IsPathText Short path_short ws g.0 g.1.0)
asked_bounded verb.List ws a g = subst (λ c. is_bounded c ≡ true) g.1.1 (last_so IsPathText Short path_short ws g.0 g.1.0)
asked_bounded verb.Remove ws a g = subst (λ c. is_bounded c ≡ true) g.1.1 (last_so IsPathText Short path_short ws g.0 g.1.0)
asked_bounded verb.Rmdir ws a g = subst (λ c. is_bounded c ≡ true) g.1.1 (last_so IsPathText Short path_short ws g.0 g.1.0)
asked_bounded verb.Rename ws a g = subst (λ c. is_bounded c ≡ true) g.1.1 (
    let p = first_so IsPathText (Last IsPathText) Short path_short ws g.0 g.1.0 in
    let q = rest_so IsPathText (Last IsPathText) Short (last_so IsPathText Short path_short) ws g.0 g.1.0 in
    and_both (is_short g.0.0) (is_short g.0.1) p q)
asked_bounded verb.Fsync ws a g = subst (λ c. is_bounded c ≡ true) g.1.1 (last_so IsPathText Short path_short ws g.0 g.1.0)
asked_bounded verb.Forder ws a g = subst (λ c. is_bounded c ≡ true) g.1.1 (
    let p = first_so IsPathText (UpTo IsPathText (max_ordered - 1)) Short path_short ws g.0 g.1.0 in
    let n = rest_so IsPathText (UpTo IsPathText (max_ordered - 1)) (λ ps. length ps ≤ max_ordered - 1) (few IsPathText (max_ordered - 1)) ws g.0 g.1.0 in
    let each = rest_so IsPathText (UpTo IsPathText (max_ordered - 1)) (λ ps. list_all is_short ps ≡ true) (each_so IsPathText is_short path_short (max_ordered - 1)) ws g.0 g.1.0 in
    ordered g.0.0 g.0.1 p n each)
asked_bounded verb.Sync ws a g = subst (λ c. is_bounded c ≡ true) g.1.1 refl
asked_bounded verb.Chown ws a g = subst (λ c. is_bounded c ≡ true) g.1.1 (first_so IsPathText (Last IsSmallNumber) Short path_short ws g.0 g.1.0)

pub call_bounded : (ws : List Word) (a : Call) → SpellsCall ws a → T (is_bounded a)
call_bounded [] a g = absurd g
call_bounded (w ∷ ws) a g = T_from_true (is_bounded a) (asked_bounded g.0 ws a g.1.1)
