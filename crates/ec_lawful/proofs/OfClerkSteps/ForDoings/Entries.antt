-- What entries name behind updates: what they named before, or an operand.
use Rattle.std.proofs.Common.{◌≡◌, ℕ, Bool, true, false, not, ◌==◌, cond, T, List, [], ◌∷◌, ◌++◌}
use Rattle.std.specs.Prelude.{Some}
use Rattle.std.specs.FinMap.{put}
use Rattle.std.specs.FinMap.Entries.{by_order}
use Rattle.std.specs.declared.cmp.Ordering.{Ordering}
use Rattle.std.specs.declared.cmp.Ordering.TheVariants.{Less, Equal, Greater}
use Rattle.ec_volume.specs.Entries.{Entries, by_bytes, entry, same_name, with_entry, without_entry}
use Rattle.ec_volume.specs.Image.{entries_of, is_id, new_object, with_bytes, with_entries, with_mode, with_owner, with_stamp}
use Rattle.ec_volume.specs.Update.{effect, has_operand, operands}
use Rattle.ec_volume.specs.Volume.{image_after, image_next}
use Rattle.ec_volume.specs.declared.image.Image.{Image}
use Rattle.ec_volume.specs.declared.image.Image.TheVariants.{Gone, File, Dir}
use Rattle.ec_volume.specs.declared.image.Kind.{Kind}
use Rattle.ec_volume.specs.declared.image.Kind.TheVariants as kind
use Rattle.ec_volume.specs.declared.update.Update.{Update}
use Rattle.ec_volume.specs.declared.update.Update.TheVariants.{Make, Drop, Move, Put, Len, Mode, Stamp, Order, Shift, Owner}
use Rattle.ec_history.specs.History.{Each, Op, updates}
use Rattle.ec_coherence.proofs.ForServer.Lists.{each-fewer}

module _ (P : ℕ → Type 0) where
  abbrev pub In : Entries → Type 0
  In es = Each (λ e. P e.1) es

  abbrev pub Of : Image → Type 0
  Of i = In (entries_of i)

  put-in : (n : List ℕ) (o : ℕ) (es : Entries) → P o → In es → In (with_entry es n o)
  put-in n o [] p h = (p, tt)
  put-in n o (e ∷ es) p h = go (by_bytes n e.0) (put-in n o es p h.1)
    where
      go : (r : Ordering) → In (put by_bytes n o es) → In (by_order r ((n, o) ∷ e ∷ es) ((e.0, o) ∷ es) (e ∷ put by_bytes n o es))
      go Less q = (p, h)
      go Equal q = (p, h.1)
      go Greater q = (h.0, q)

  less-in : (n : List ℕ) (es : Entries) → In es → In (without_entry es n)
  less-in n es h = each-fewer (λ e. P e.1) (λ e. not (same_name n e.0)) es h

  with-in : (f : Entries → Entries) (i : Image) → ((es : Entries) → In es → In (f es)) → Of i → Of (with_entries f i)
  with-in f Gone k h = tt
  with-in f (File m s w bs) k h = tt
  with-in f (Dir m s w es) k h = k es h

  new-in : (k : Kind) → Of (new_object k)
  new-in kind.File = tt
  new-in kind.Dir = tt

  bytes-in : (f : List ℕ → List ℕ) (i : Image) → Of i → Of (with_bytes f i)
  bytes-in f Gone h = tt
  bytes-in f (File m s w bs) h = tt
  bytes-in f (Dir m s w es) h = h

  mode-in : (m : ℕ) (i : Image) → Of i → Of (with_mode m i)
  mode-in m Gone h = tt
  mode-in m (File n s w bs) h = tt
  mode-in m (Dir n s w es) h = h

  stamp-in : (s : ℕ) (i : Image) → Of i → Of (with_stamp s i)
  stamp-in s Gone h = tt
  stamp-in s (File m t w bs) h = tt
  stamp-in s (Dir m t w es) h = h

  owner-in : (w : ℕ) (i : Image) → Of i → Of (with_owner w i)
  owner-in w Gone h = tt
  owner-in w (File m s v bs) h = tt
  owner-in w (Dir m s v es) h = h

  choose : (b : Bool) (i j : Image) → Of i → Of j → Of (cond b i j)
  choose true i j p q = p
  choose false i j p q = q

  effect-in : (u : Update) (o : ℕ) (i : Image) → Each P (operands u) → Of i → Of (effect u o i)
  effect-in (Make dir name obj k) o i p h = choose (o == dir) (with_entries (λ es. with_entry es name obj) i) (new_object k) (with-in (λ es. with_entry es name obj) i (λ es q. put-in name obj es p.1.0 q) h) (new-in k)
  effect-in (Drop dir name obj k) o i p h = choose (o == dir) (with_entries (λ es. without_entry es name) i) Gone (with-in (λ es. without_entry es name) i (less-in name) h) tt
  effect-in (Move dir from to obj k victim) o i p h = choose (o == dir) (with_entries (λ es. with_entry (without_entry es from) to obj) i) (cond (o == obj) i Gone)
      (with-in (λ es. with_entry (without_entry es from) to obj) i (λ es q. put-in to obj (without_entry es from) p.1.0 (less-in from es q)) h) (choose (o == obj) i Gone h tt)
  effect-in (Put obj at bytes inside) o i p h = bytes-in (Rattle.ec_volume.specs.Image.overwritten at bytes) i h
  effect-in (Len obj len) o i p h = bytes-in (Rattle.ec_volume.specs.Image.resized len) i h
  effect-in (Mode obj mode) o i p h = mode-in mode i h
  effect-in (Stamp obj stamp) o i p h = stamp-in stamp i h
  effect-in (Order objs) o i p h = h
  effect-in (Shift dir from into to obj k victim up) o i p h = choose (o == dir) (with_entries (λ es. without_entry es from) i) (cond (o == into) (with_entries (λ es. with_entry es to obj) i) (cond (is_id o victim) Gone i))
      (with-in (λ es. without_entry es from) i (less-in from) h)
      (choose (o == into) (with_entries (λ es. with_entry es to obj) i) (cond (is_id o victim) Gone i) (with-in (λ es. with_entry es to obj) i (λ es q. put-in to obj es p.1.1.0 q) h) (choose (is_id o victim) Gone i tt h))
  effect-in (Owner obj owner) o i p h = owner-in owner i h

  next-in : (u : Update) (o : ℕ) (i : Image) → Each P (operands u) → Of i → Of (image_next o i u)
  next-in u o i p h = choose (has_operand o u) (effect u o i) i (effect-in u o i p h) h

  pub after-in : (os : List Op) (o : ℕ) (i : Image) → Each (λ x. Each P (operands x.update)) os → Of i → Of (image_after o i (updates os))
  after-in [] o i p h = h
  after-in (x ∷ os) o i p h = after-in os o (image_next o i x.update) p.1 (next-in x.update o i p.0 h)

  -- what is found in a directory
  pub entry-in : (es : Entries) (n : List ℕ) (o : ℕ) → entry es n ≡ Some o → In es → P o
  entry-in [] n o e h = absurd (cc)
  entry-in (x ∷ es) n o e h = go (same_name n x.0) e (λ q. entry-in es n o q h.1)
    where
      same : (a b : ℕ) → Some a ≡ Some b → a ≡ b
      same a b q = cc

      go : (b : Bool) → cond b (Some x.1) (entry es n) ≡ Some o → (entry es n ≡ Some o → P o) → P o
      go true q f = Rattle.std.proofs.Common.subst P (same x.1 o q) h.0
      go false q f = f q
