-- What is owed is on operands of operations that were issued.
use Rattle.std.proofs.Common.{◌≡◌, refl, sym, subst, ◌∙◌, ◌==◌, ◌||◌, not, ℕ, Bool, true, false, cond, List, [], ◌∷◌, ◌++◌, map}
use Rattle.std.specs.List.{filter}
use Rattle.std.proofs.lemmas.Bool.{eqb-true}
use Rattle.ec_volume.specs.Update.{has_operand, member, operands}
use Rattle.ec_history.specs.History.{Base, Each, History, Op, Owed, is_one_of, issued, issued_by, issued_from, kept_next, meets, outcome, owed, owed_from, owed_next, pairs_of, same_start}
use Rattle.ec_history.specs.declared.entry.Entry.{Entry}
use Rattle.ec_history.specs.declared.entry.Entry.TheVariants as entry
use Rattle.ec_history.proofs.OfLaws.ForPlacing.Numbers.{each-append, each-back, each-filter, each-front}
use Rattle.ec_history.specs.OfLaws.NewIds.{Clear}

-- the id is in none of the pairs
abbrev pub IsOff : ℕ → ℕ × ℕ → Type 0
IsOff x q = (q.1 == x) ≡ false

pub turn : (a b : ℕ) → (a == b) ≡ false → (b == a) ≡ false
turn a b n = go (b == a) refl
  where
    go : (z : Bool) → (b == a) ≡ z → z ≡ false
    go true e = let p = eqb-true b a e in sym (subst (λ z. (b == z) ≡ true) (sym p) e) ∙ subst (λ z. (z == b) ≡ false) (sym p) n
    go false e = refl

pub parts : (x y : Bool) → (x || y) ≡ false → (x ≡ false) × (y ≡ false)
parts true y e = absurd (cc)
parts false y e = (refl, e)

off-pairs : (x n : ℕ) (os : List ℕ) → member x os ≡ false → Each (IsOff x) (map (λ o. (n, o)) os)
off-pairs x n [] e = tt
off-pairs x n (o ∷ os) e = let q = parts (x == o) (member x os) e in (turn x o q.0, off-pairs x n os q.1)

pairs-off : (x : ℕ) (ks : List Op) → Clear x ks → Each (IsOff x) (pairs_of ks)
pairs-off x [] c = tt
pairs-off x (k ∷ ks) c = each-append (IsOff x) (map (λ o. (k.number, o)) (operands k.update)) (pairs_of ks) (off-pairs x k.number (operands k.update) c.0) (pairs-off x ks c.1)

module _ (base : Base) (x c b : ℕ) where
  abbrev P : Op → Type 0
  P o = has_operand x o.update ≡ false

  next-off : (ks : List Op) (qs : Owed) (e : ℕ × Entry) → Clear x ks → Each (IsOff x) qs → Each (IsOff x) (owed_next base c b ks qs e)
  next-off ks qs (p, entry.Call d f l begun cl a op) k q = go (same_start c b d f)
    where
      go : (z : Bool) → Each (IsOff x) (cond z (filter (λ r. not (meets (outcome base ks p cl) cl r)) qs) qs)
      go true = each-filter (IsOff x) (λ r. not (meets (outcome base ks p cl) cl r)) qs q
      go false = q
  next-off ks qs (p, entry.Loss d f ns) k q = go (same_start c b d f)
    where
      go : (z : Bool) → Each (IsOff x) (cond z (qs ++ pairs_of (filter (is_one_of d f ns) ks)) qs)
      go true = each-append (IsOff x) qs (pairs_of (filter (is_one_of d f ns) ks)) q (pairs-off x (filter (is_one_of d f ns) ks) (each-filter P (is_one_of d f ns) ks k))
      go false = q

  pub next-clear : (ks : List Op) (e : ℕ × Entry) → Clear x ks → Clear x (issued_by base ks e) → Clear x (kept_next base ks e)
  next-clear ks (p, entry.Call d f l begun cl a op) k i = each-append P ks (issued_by base ks (p, entry.Call d f l begun cl a op)) k i
  next-clear ks (p, entry.Loss d f ns) k i = each-filter P (λ o. not (is_one_of d f ns o)) ks k

  from-off : (ks : List Op) (qs : Owed) (h : History) → Clear x ks → Each (IsOff x) qs → Clear x (issued_from base ks h) → Each (IsOff x) (owed_from base c b ks qs h)
  from-off ks qs [] k q i = q
  from-off ks qs (e ∷ h) k q i =
      from-off (kept_next base ks e) (owed_next base c b ks qs e) h (next-clear ks e k (each-front P (issued_by base ks e) (issued_from base (kept_next base ks e) h) i)) (next-off ks qs e k q)
      (each-back P (issued_by base ks e) (issued_from base (kept_next base ks e) h) i)

  pub owed-off : (h : History) → Clear x (issued base h) → Each (IsOff x) (owed base h c b)
  owed-off h i = from-off [] [] h tt tt i
