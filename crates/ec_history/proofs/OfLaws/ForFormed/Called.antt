-- Updates that fit and are sound; those of calls that make or drop an object are.
use Rattle.std.proofs.Common.{◌≡◌, sym, subst, inl, inr, arith, ◌⊎◌, ℕ, T, Bool, true, false, not, ◌==◌, ◌&&◌, ◌||◌, cond, List, [], ◌∷◌, ◌++◌, Option, Some, None}
use Rattle.std.specs.Prelude.{length, nat_le, nat_lt, is_some, is_none}
use Rattle.std.proofs.lemmas.Bool.{cases_Bool, eqb-true}
use Rattle.ec_volume.specs.Entries.{entry}
use Rattle.ec_volume.specs.Image.{entries_of, is_gone, is_dir, is_bare, lacks, gives}
use Rattle.ec_volume.specs.Update.{root, has_operand, member, distinct, fits, is_sound}
use Rattle.ec_volume.specs.Volume.{Images, Names, Fits, WellFormed}
use Rattle.ec_volume.specs.declared.image.Image.{Image}
use Rattle.ec_volume.specs.declared.image.Image.TheVariants.{Gone, File, Dir}
use Rattle.ec_volume.specs.declared.image.Kind.{Kind}
use Rattle.ec_volume.specs.declared.image.Kind.TheVariants as kind
use Rattle.ec_volume.specs.declared.update.Update.{Update}
use Rattle.ec_volume.specs.declared.update.Update.TheVariants.{Make, Drop}
use Rattle.ec_plain.specs.Walk.{Path, walk, last_of}
use Rattle.ec_plain.specs.Plain.{refuses, issues, on_reached, make_in, drop_in}
use Rattle.ec_plain.specs.declared.call.Refusal.{Refusal}
use Rattle.ec_plain.specs.declared.call.Refusal.TheVariants as no
use Rattle.ec_plain.specs.declared.call.Outcome.{Outcome}
use Rattle.ec_history.proofs.OfLaws.ForPlacing.Removed.{off}
use Rattle.ec_history.proofs.OfLaws.ForFormed.Walked.{Walked, walked, no_own_entry}
use Rattle.ec_history.proofs.OfLaws.ForFormed.Ways.{gives-named}
use Rattle.ec_history.proofs.OfLaws.ForFormed.Makes.{Makes, cond-makes, refuses-makes, issues-makes, reached-makes}
use Rattle.ec_history.proofs.OfLaws.ForFormed.Moving.{fits-one}
use Rattle.ec_base.proofs.Numbers.{same-self as self}
use Rattle.ec_base.proofs.Bools.{both, on as holds}

-- the update fits, and is sound where B holds
pub record IsFine (v : Images) (B : Type 0) (u : Update) : Type 0 where
  pub sound : B → T (is_sound u)
  pub fitting : Fits v (u ∷ [])

-- so is the update of the outcome, if any
abbrev pub IsGood : Images → Type 0 → Outcome → Type 0
IsGood v B out = Makes (IsFine v B) out

pub weaker : (v : Images) (A B : Type 0) (out : Outcome) → (B → A) → IsGood v A out → IsGood v B out
weaker v A B out h good u e = let fine = good u e in record { sound = λ b. fine.sound (h b); fitting = fine.fitting }

module _ (v : Images) (B : Type 0) where
  -- a refusal first
  pub unless : (b : Bool) (r : Refusal) (os : List ℕ) (y : Outcome) → (b ≡ false → IsGood v B y) → IsGood v B (cond b (refuses r os) y)
  unless b r os y h = cond-makes (IsFine v B) b (refuses r os) y (λ _. refuses-makes (IsFine v B) r os) h

  -- what a call is given by its walk
  pub on_walk : (p : Path) (f : ℕ → List ℕ → Outcome) → ((o : ℕ) (os : List ℕ) → Walked v root p os o → IsGood v B (f o os)) → IsGood v B (on_reached (walk v p) f)
  on_walk p f h = reached-makes (IsFine v B) v p f (λ o at. h o (walk v p).read (walked v 0 root p o at))

pub fits_at : (v : Images) (u : Update) → ((o : ℕ) → T (has_operand o u) → T (fits u o (v o))) → Fits v (u ∷ [])
fits_at v u h = fits-one v u (λ o e. h o (holds e))

-- at the one operand
pub one : (P : ℕ → Type 0) (d : ℕ) → P d → (o : ℕ) → T (member o (d ∷ [])) → P o
one P d x o h = go (cases_Bool (o == d))
  where
    go : ((o == d) ≡ true) ⊎ ((o == d) ≡ false) → P o
    go (inl e) = subst P (sym (eqb-true o d e)) x
    go (inr e) = absurd (subst (λ b. T (b || false)) e h)

-- at the two operands, the first one first
pub two : (P : ℕ → Type 0) (d p : ℕ) → P d → ((p == d) ≡ false → P p) → (o : ℕ) → T (member o (d ∷ p ∷ [])) → P o
two P d p x y o h = go (cases_Bool (o == d))
  where
    go : ((o == d) ≡ true) ⊎ ((o == d) ≡ false) → P o
    go (inl e) = subst P (sym (eqb-true o d e)) x
    go (inr e) = one (λ z. (z == d) ≡ false → P z) p y o (subst (λ b. T (b || member o (p ∷ []))) e h) e

-- two operands that differ
pub apart : (d p : ℕ) → (d ≡ p → ⊥) → T (distinct (d ∷ p ∷ []))
apart d p h = go (cases_Bool (d == p))
  where
    go : ((d == p) ≡ true) ⊎ ((d == p) ≡ false) → T (not (d == p || false) && true)
    go (inl e) = absurd (h (eqb-true d p e))
    go (inr e) = subst (λ b. T (not (b || false) && true)) (sym e) tt

-- New objects.

none_of : (o : Option ℕ) → is_some o ≡ false → T (is_none o)
none_of None e = tt
none_of (Some x) e = subst T e tt

few : (m : ℕ) → nat_le 128 m ≡ false → T (nat_lt m 128)
few m t = grind arith

dir_gone : (i : Image) → T (is_dir i) → T (is_gone i) → ⊥
dir_gone Gone d g = absurd d
dir_gone (File m s w bs) d g = absurd d
dir_gone (Dir m s w es) d g = absurd g

module _ (v : Images) (B : Type 0) where
  make_fine : (k : Kind) (n : List ℕ) (fresh d : ℕ) → T (is_gone (v fresh)) → T (is_dir (v d)) → is_some (entry (entries_of (v d)) n) ≡ false → nat_le 128 (length (entries_of (v d))) ≡ false → IsFine v B (Make d n fresh k)
  make_fine k n fresh d gone dir absent room =
      record {
        sound = λ b. both (distinct (d ∷ fresh ∷ [])) true (apart d fresh (λ e. dir_gone (v d) dir (subst (λ x. T (is_gone (v x))) (sym e) gone))) tt;
        fitting = fits_at v (Make d n fresh k) (two (λ o. T (fits (Make d n fresh k) o (v o))) d fresh
            (subst (λ b. T (cond b (lacks n (v d) && nat_lt (length (entries_of (v d))) 128) (is_gone (v d)))) (sym (self d))
            (both (lacks n (v d)) (nat_lt (length (entries_of (v d))) 128) (both (is_dir (v d)) (is_none (entry (entries_of (v d)) n)) dir (none_of (entry (entries_of (v d)) n) absent)) (few (length (entries_of (v d))) room)))
            (λ a. subst (λ b. T (cond b (lacks n (v fresh) && nat_lt (length (entries_of (v fresh))) 128) (is_gone (v fresh)))) (sym a) gone));
      }

  pub make_good : (k : Kind) (n : List ℕ) (fresh d : ℕ) (os : List ℕ) → T (is_gone (v fresh)) → T (is_dir (v d)) → IsGood v B (make_in k n fresh d (entries_of (v d)) os)
  make_good k n fresh d os gone dir =
      unless v B (is_some (entry (entries_of (v d)) n)) no.Exists os (cond (nat_le 128 (length (entries_of (v d)))) (refuses no.DirFull os) (issues (Make d n fresh k) (os ++ fresh ∷ [])))
      (λ absent. unless v B (nat_le 128 (length (entries_of (v d)))) no.DirFull os (issues (Make d n fresh k) (os ++ fresh ∷ []))
      (λ room. issues-makes (IsFine v B) (Make d n fresh k) (os ++ fresh ∷ []) (make_fine k n fresh d gone dir absent room)))

-- Removals.

file_bare : (i : Image) → is_dir i ≡ false → is_gone i ≡ false → T (is_bare kind.File i)
file_bare Gone a b = absurd (off b tt)
file_bare (File m s w bs) a b = tt
file_bare (Dir m s w es) a b = absurd (off a tt)

dir_bare : (i : Image) → not (is_dir i) ≡ false → nat_lt 0 (length (entries_of i)) ≡ false → T (is_bare kind.Dir i)
dir_bare Gone a b = absurd (off a tt)
dir_bare (File m s w bs) a b = absurd (off a tt)
dir_bare (Dir m s w es) a b = empty (length es) b
  where
    empty : (n : ℕ) → nat_lt 0 n ≡ false → T (n == 0)
    empty n e = grind arith

module _ (v : Images) (f : WellFormed v) (B : Type 0) (p : Path) (d o : ℕ) (ns : Path) (ds os : List ℕ) (way : Walked v root ns ds d) (dir : T (is_dir (v d))) (name : Names v d (last_of p) o) (live : is_gone (v o) ≡ false) where
  drop_fine : (k : Kind) → T (is_bare k (v o)) → IsFine v B (Drop d (last_of p) o k)
  drop_fine k bare =
      record {
        sound = λ b. both (distinct (d ∷ o ∷ [])) true (apart d o (λ e. no_own_entry v f ns ds d way (last_of p) (subst (λ x. Names v d (last_of p) x) (sym e) name))) tt;
        fitting = fits_at v (Drop d (last_of p) o k) (two (λ x. T (fits (Drop d (last_of p) o k) x (v x))) d o
            (subst (λ b. T (cond b (gives (last_of p) o (v d)) (is_bare k (v d)))) (sym (self d)) (gives-named v d (last_of p) o dir name))
            (λ a. subst (λ b. T (cond b (gives (last_of p) o (v o)) (is_bare k (v o)))) (sym a) bare));
      }

  pub drop_good : (k : Kind) → IsGood v B (drop_in v k p d (entries_of (v d)) o os)
  drop_good kind.File =
      unless v B (is_dir (v o)) no.IsDir os (issues (Drop d (last_of p) o kind.File) os) (λ a. issues-makes (IsFine v B) (Drop d (last_of p) o kind.File) os (drop_fine kind.File (file_bare (v o) a live)))
  drop_good kind.Dir =
      unless v B (not (is_dir (v o))) (no.NotDir (length p)) os (cond (nat_lt 0 (length (entries_of (v o)))) (refuses no.NotEmpty os) (issues (Drop d (last_of p) o kind.Dir) os))
      (λ a. unless v B (nat_lt 0 (length (entries_of (v o)))) no.NotEmpty os (issues (Drop d (last_of p) o kind.Dir) os)
      (λ b. issues-makes (IsFine v B) (Drop d (last_of p) o kind.Dir) os (drop_fine kind.Dir (dir_bare (v o) a b))))
