-- Reading rows one after the other, as a loop does.
use Rattle.std.proofs.Common.{◌≡◌, ℕ, suc, ◌-◌, ◌+◌, ◌≤◌, ◌<◌, List, [], ◌∷◌, ◌++◌, Result, Ok, Err, refl, sym, ap, subst, ◌∙◌, arith}
use Rattle.ec_codes.specs.declared.fault.CodeFault.{CodeFault}
use Rattle.ec_codes.specs.declared.fault.CodeFault.TheVariants.{Short, Field, NoMemory}
use Rattle.ec_codes.specs.Formats.{Read, ◌>>=◌, Format, rows_read}
use Rattle.ec_codes.specs.Spelling.{Fails}

pub goes_on : {A : Type 0} (F : List A → Format A) (count i : ℕ) (before : List A) (bytes : List ℕ) (at : ℕ) (x : A) (next : ℕ) (all : Read (List A)) → i < count
    → (F before).read bytes at ≡ Ok (x, next) → rows_read F (count - i) before bytes at ≡ all → rows_read F (count - (i + 1)) (before ++ x ∷ []) bytes next ≡ all
goes_on F count i before bytes at x next all lt h so_far =
    let k : count - i ≡ suc (count - (i + 1)) = omega arith in
    let one : rows_read F (count - i) before bytes at ≡ rows_read F (count - (i + 1)) (before ++ x ∷ []) bytes next =
    ap (λ n. rows_read F n before bytes at) k ∙ ap (λ r. r >>= λ y. rows_read F (count - (i + 1)) (before ++ y.0 ∷ []) bytes y.1) h in
    sym one ∙ so_far

pub ends : {A : Type 0} (F : List A → Format A) (e : CodeFault) (count i : ℕ) (before : List A) (bytes : List ℕ) (at : ℕ) (all : Read (List A)) → i < count
    → Fails e ((F before).read bytes at) → rows_read F (count - i) before bytes at ≡ all → Fails e all
ends F NoMemory count i before bytes at all lt h so_far = tt
ends F (Short p) count i before bytes at all lt h so_far =
    let k : count - i ≡ suc (count - (i + 1)) = omega arith in
    sym so_far ∙ ap (λ n. rows_read F n before bytes at) k ∙ ap (λ r. r >>= λ y. rows_read F (count - (i + 1)) (before ++ y.0 ∷ []) bytes y.1) h
ends F (Field p) count i before bytes at all lt h so_far =
    let k : count - i ≡ suc (count - (i + 1)) = omega arith in
    sym so_far ∙ ap (λ n. rows_read F n before bytes at) k ∙ ap (λ r. r >>= λ y. rows_read F (count - (i + 1)) (before ++ y.0 ∷ []) bytes y.1) h

pub is_done : {A : Type 0} (F : List A → Format A) (count i : ℕ) (before : List A) (bytes : List ℕ) (at : ℕ) (all : Read (List A)) → count ≤ i
    → rows_read F (count - i) before bytes at ≡ all → all ≡ Ok (before, at)
is_done F count i before bytes at all le so_far =
    let k : count - i ≡ 0 = omega arith in
    sym so_far ∙ ap (λ n. rows_read F n before bytes at) k

-- The same, where the rows before, those with the next one and the input have other names.

pub goes_on_so : {A : Type 0} (F : List A → Format A) (count i : ℕ) (before seen pushed : List A) (bytes old : List ℕ) (at : ℕ) (x : A) (next : ℕ) (all : Read (List A)) → i < count
    → seen ≡ before → old ≡ bytes → pushed ≡ before ++ x ∷ [] → (F seen).read old at ≡ Ok (x, next) → rows_read F (count - i) before bytes at ≡ all → rows_read F (count - (i + 1)) pushed bytes next ≡ all
goes_on_so F count i before seen pushed bytes old at x next all lt s o p h so_far =
    ap (λ ys. rows_read F (count - (i + 1)) ys bytes next) p
    ∙ goes_on F count i before bytes at x next all lt (sym (ap (λ b. (F before).read b at) o) ∙ sym (ap (λ ys. (F ys).read old at) s) ∙ h) so_far

pub ends_so : {A : Type 0} (F : List A → Format A) (e : CodeFault) (count i : ℕ) (before seen : List A) (bytes old : List ℕ) (at : ℕ) (all : Read (List A)) → i < count
    → seen ≡ before → old ≡ bytes → Fails e ((F seen).read old at) → rows_read F (count - i) before bytes at ≡ all → Fails e all
ends_so F e count i before seen bytes old at all lt s o h so_far =
    ends F e count i before bytes at all lt (subst (λ b. Fails e ((F before).read b at)) o (subst (λ ys. Fails e ((F ys).read old at)) s h)) so_far
