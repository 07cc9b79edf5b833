-- What a call comes to with one id for a new object or with another one.
use Rattle.std.proofs.Common.{◌≡◌, refl, sym, ap, ◌∙◌, inl, inr, ◌⊎◌, ◌-◌, ◌==◌, ◌||◌, ℕ, Bool, true, false, cond, List, [], ◌∷◌, ◌++◌, length}
use Rattle.std.specs.Prelude.{is_some, nat_le}
use Rattle.std.proofs.lemmas.List.Folds.{list_any-append}
use Rattle.ec_volume.specs.Entries.{Entries, entry}
use Rattle.ec_volume.specs.Image.{entries_of, is_dir}
use Rattle.ec_volume.specs.Limits.{max_entries}
use Rattle.ec_volume.specs.Update.{member}
use Rattle.ec_volume.specs.Volume.{Images}
use Rattle.ec_volume.specs.declared.image.Kind.{Kind}
use Rattle.ec_volume.specs.declared.image.Kind.TheVariants as kind
use Rattle.ec_volume.specs.declared.update.Update.TheVariants.{Make}
use Rattle.ec_plain.specs.Walk.{At, Not, Path, Reached, last_of, parent_of, walk}
use Rattle.ec_plain.specs.Plain.{is_sync, issues, make_in, on_parent, plain, plain_make, refuses}
use Rattle.ec_plain.specs.declared.call.Call.{Call}
use Rattle.ec_plain.specs.declared.call.Call.TheVariants as call
use Rattle.ec_plain.specs.declared.call.Refusal.TheVariants as no
use Rattle.ec_plain.specs.declared.call.Outcome.{Outcome}
use Rattle.ec_history.specs.History.{meets}

-- the same, or a new object with the one id or the other
abbrev pub Like : ℕ → ℕ → Outcome → Outcome → Type 0
Like a b o q = (o ≡ q) ⊎ ((dir : ℕ) × (name : List ℕ) × (k : Kind) × (read : List ℕ) × (o ≡ issues (Make dir name a k) (read ++ a ∷ [])) × (q ≡ issues (Make dir name b k) (read ++ b ∷ [])))

make-like : (k : Kind) (name : List ℕ) (a b dir : ℕ) (es : Entries) (read : List ℕ) → Like a b (make_in k name a dir es read) (make_in k name b dir es read)
make-like k name a b dir es read = go (is_some (entry es name)) (nat_le max_entries (length es))
  where
    go : (x y : Bool) → Like a b (cond x (refuses no.Exists read) (cond y (refuses no.DirFull read) (issues (Make dir name a k) (read ++ a ∷ [])))) (cond x (refuses no.Exists read) (cond y (refuses no.DirFull read) (issues (Make dir name b k) (read ++ b ∷ []))))
    go true y = inl refl
    go false true = inl refl
    go false false = inr (dir, name, k, read, refl, refl)

module _ (v : Images) (path : Path) (a b : ℕ) (f g : ℕ → Entries → List ℕ → Outcome) (like : (d : ℕ) (es : Entries) (read : List ℕ) → Like a b (f d es read) (g d es read)) where
  abbrev read : List ℕ
  read = (walk v (parent_of path)).read

  abbrev at : (ℕ → Entries → List ℕ → Outcome) → ℕ → Bool → Outcome
  at h dir x = cond x (h dir (entries_of (v dir)) read) (refuses (no.NotDir (length path - 1)) read)

  by-dir : (dir : ℕ) (x : Bool) → Like a b (at f dir x) (at g dir x)
  by-dir dir true = like dir (entries_of (v dir)) read
  by-dir dir false = inl refl

  reach : (t : Reached) → Like a b (elim t [ At dir ↦ at f dir (is_dir (v dir)) | Not r ↦ refuses r read ]) (elim t [ At dir ↦ at g dir (is_dir (v dir)) | Not r ↦ refuses r read ])
  reach (At dir) = by-dir dir (is_dir (v dir))
  reach (Not r) = inl refl

  parent-like : Like a b (on_parent v path f) (on_parent v path g)
  parent-like = reach ((walk v (parent_of path)).to)

plain-makes : (v : Images) (k : Kind) (path : Path) (a b : ℕ) → Like a b (plain_make v k path a) (plain_make v k path b)
plain-makes v k [] a b = inl refl
plain-makes v k (n ∷ ns) a b = parent-like v (n ∷ ns) a b (make_in k (last_of (n ∷ ns)) a) (make_in k (last_of (n ∷ ns)) b) (λ d es read. make-like k (last_of (n ∷ ns)) a b d es read)

pub plain-like : (v : Images) (cl : Call) (a b : ℕ) → Like a b (plain v cl a) (plain v cl b)
plain-like v (call.Mkdir path) a b = plain-makes v kind.Dir path a b
plain-like v (call.Create path) a b = plain-makes v kind.File path a b
plain-like v (call.Write path at bytes) a b = inl refl
plain-like v (call.SetLen path len) a b = inl refl
plain-like v (call.Read path at count) a b = inl refl
plain-like v (call.Chmod path mode) a b = inl refl
plain-like v (call.Touch path stamp) a b = inl refl
plain-like v (call.Stat path) a b = inl refl
plain-like v (call.List path) a b = inl refl
plain-like v (call.Remove path) a b = inl refl
plain-like v (call.Rmdir path) a b = inl refl
plain-like v (call.Rename path target) a b = inl refl
plain-like v (call.Fsync path) a b = inl refl
plain-like v (call.Forder paths) a b = inl refl
plain-like v call.Sync a b = inl refl
plain-like v (call.Chown path owner) a b = inl refl

-- other objects are touched by both
member-off : (z a : ℕ) (read : List ℕ) → (z == a) ≡ false → member z (read ++ a ∷ []) ≡ member z read
member-off z a read n = list_any-append (λ p. z == p) read (a ∷ []) ∙ ap (λ x. member z read || (x || false)) n ∙ or-none (member z read)
  where
    or-none : (x : Bool) → (x || false) ≡ x
    or-none true = refl
    or-none false = refl

pub touched-like : (a b z : ℕ) (o q : Outcome) → Like a b o q → (z == a) ≡ false → (z == b) ≡ false → member z q.touched ≡ member z o.touched
touched-like a b z o q (inl e) n m = ap (λ x. member z x.touched) (sym e)
touched-like a b z o q (inr l) n m = ap (λ x. member z x.touched) l.5 ∙ member-off z b l.3 m ∙ sym (member-off z a l.3 n) ∙ sym (ap (λ x. member z x.touched) l.4)

pub meets-like : (a b : ℕ) (o q : Outcome) (cl : Call) (p : ℕ × ℕ) → Like a b o q → (p.1 == a) ≡ false → (p.1 == b) ≡ false → meets q cl p ≡ meets o cl p
meets-like a b o q cl p l n m = ap (λ x. is_sync cl || x) (touched-like a b p.1 o q l n m)
