-- The volume of a well-formed state: its live objects, the ids of their entries, and new ids.
use Rattle.std.proofs.Common.{◌≡◌, ◌≢◌, refl, sym, ap, subst, ◌∙◌, arith, inl, inr, ℕ, Bool, true, false, not, ◌||◌, ◌+◌, ◌≤◌, ◌<◌, zero, suc, cond, T, List, [], ◌∷◌, ◌++◌, Some}
use Rattle.std.specs.Prelude.{◌==◌, nat_lt}
use Rattle.std.specs.Cmp.{IsTotalOrder, eq_by_cmp_equiv}
use Rattle.std.specs.Cmp.Lexicographic.{nat_list_cmp_total}
use Rattle.std.specs.FinMap.Entries.{below_all, find, is_sorted}
use Rattle.std.specs.Ordering.{is_lt}
use Rattle.std.specs.declared.cmp.Ordering.{Ordering}
use Rattle.std.specs.List.{list_all}
use Rattle.ec_base.specs.Tables.{keys}
use Rattle.ec_volume.specs.Held.{is_held}
use Rattle.ec_volume.specs.Entries.{by_bytes, entry}
use Rattle.ec_volume.specs.Image.{entries_of, is_gone}
use Rattle.ec_volume.specs.Update.{member, root}
use Rattle.ec_volume.specs.Volume as volume
use Rattle.ec_volume.specs.Volume.{Images, images}
use Rattle.ec_volume.specs.declared.image.Image.{Image}
use Rattle.ec_history.specs.History.{Each}
use Rattle.ec_history.specs.OfLaws.Bases.{IsBase}
use Rattle.ec_sessions.specs.Slots.{all_unspent}
use Rattle.ec_durable.specs.WellFormed.{WellFormed}
use Rattle.ec_durable.specs.declared.state.Durable.{Durable}
use Rattle.ec_coherence.proofs.ForBatches.Ids.{in-front}
use Rattle.ec_coherence.proofs.ForServer.Lists.{each-turn, either_way}
use Rattle.ec_lawful.specs.Olds.{AreAtMost, base_above}
use Rattle.ec_base.proofs.Bools.{left as and_first, not-tied, or-right as or_next, right as and_next, or_first, holds-true as holds}
use Rattle.ec_base.proofs.Numbers.{equal}
use Rattle.ec_history.proofs.OfLaws.ForFormed.Entries.{dir-live}

-- An object that is live is one of the list's, and each is within its limits.

pub live-key : (es : List (ℕ × Image)) (x : ℕ) → T (not (is_gone (images es x))) → T (member x (keys es))
live-key [] x n = absurd n
live-key (e ∷ es) x n = go (x == e.0) refl n (live-key es x)
  where
    go : (b : Bool) → (x == e.0) ≡ b → T (not (is_gone (cond b e.1 (images es x)))) → (T (not (is_gone (images es x))) → T (member x (keys es))) → T ((x == e.0) || member x (keys es))
    go true q n f = or_first (x == e.0) (member x (keys es)) (holds (x == e.0) q)
    go false q n f = or_next (x == e.0) (member x (keys es)) (f n)

pub each-held : (es : List (ℕ × Image)) → T (list_all (λ e. is_held e.1) es) → (x : ℕ) → T (is_gone (images es x) || is_held (images es x))
each-held [] h x = tt
each-held (e ∷ es) h x = go (x == e.0) (and_first (is_held e.1) _ h) (each-held es (and_next (is_held e.1) _ h) x)
  where
    go : (b : Bool) → T (is_held e.1) → T (is_gone (images es x) || is_held (images es x)) → T (is_gone (cond b e.1 (images es x)) || is_held (cond b e.1 (images es x)))
    go true h f = or_next (is_gone e.1) (is_held e.1) h
    go false h f = f

pub all-below : (n x : ℕ) (xs : List ℕ) → T (list_all (λ o. nat_lt o n) xs) → T (member x xs) → x < n
all-below n x [] h m = absurd m
all-below n x (o ∷ xs) h m = go (x == o) refl m (all-below n x xs (and_next (nat_lt o n) _ h))
  where
    less : (a b : ℕ) → T (nat_lt a b) → a < b
    less a b h = grind arith

    go : (b : Bool) → (x == o) ≡ b → T (b || member x xs) → (T (member x xs) → x < n) → x < n
    go true e m f = subst (λ z. z < n) (sym (equal x o e)) (less o n (and_first (nat_lt o n) _ h))
    go false e m f = f m

pub known-id : (d : Durable) → WellFormed d → (x : ℕ) → T (not (is_gone (images d.volume x))) → x < d.next_id
known-id d wf x n = all-below d.next_id x (keys d.volume ++ all_unspent d.sessions) wf.order.below (in-front x (keys d.volume) (all_unspent d.sessions) (live-key d.volume x n))

-- Among pairs by rising keys each one is found by its key.

module _ {K X : Type 0} (R : K → K → Ordering) (o : IsTotalOrder R) where
  later : (e : K × X) (fs es : List (K × X)) → T (below_all R e.0 fs) → Each (λ f. find R f.0 es ≡ Some f.1) fs → Each (λ f. find R f.0 (e ∷ es) ≡ Some f.1) fs
  later e [] es b h = tt
  later e (f ∷ fs) es b h = (
    ap (λ z. cond z (Some e.1) (find R f.0 es)) ((eq_by_cmp_equiv o).symm f.0 e.0 ∙ not-tied (R e.0 f.0) (and_first (is_lt (R e.0 f.0)) (below_all R e.0 fs) b)) ∙ h.0,
    later e fs es (and_next (is_lt (R e.0 f.0)) (below_all R e.0 fs) b) h.1,
  )

  pub each-found : (es : List (K × X)) → T (is_sorted R es) → Each (λ e. find R e.0 es ≡ Some e.1) es
  each-found [] s = tt
  each-found (e ∷ es) s = (
    ap (λ z. cond z (Some e.1) (find R e.0 es)) ((eq_by_cmp_equiv o).refl e.0),
    later e es es (and_first (below_all R e.0 es) (is_sorted R es) s) (each-found es (and_next (below_all R e.0 es) (is_sorted R es) s)),
  )

pub entries-known : (d : Durable) → WellFormed d → (x : ℕ) → Each (λ e. e.1 < d.next_id) (entries_of (images d.volume x))
entries-known d wf x = each-turn (λ e. entry (entries_of (images d.volume x)) e.0 ≡ Some e.1) (λ e. e.1 < d.next_id) (entries_of (images d.volume x))
    (λ e p. known-id d wf e.1 (wf.volume.live e.1 x e.0 p)) (each-found by_bytes nat_list_cmp_total (entries_of (images d.volume x)) (wf.volume.maps x))

-- New ids are above all that are live.
pub volumes-are-bases : (v : Images) → volume.WellFormed v → (n : ℕ) → AreAtMost v n → IsBase (base_above v n)
volumes-are-bases v wf n most = record {
  formed = wf;
  gone = λ p l. elim (either_way (is_gone (v (n + p)))) [ inl t ↦ t | inr a ↦ absurd (let k = most (n + p) a in omega (arith, k, l)) ];
  apart = λ p q e. omega (arith, e);
}

-- Of numbers below a bound the greatest that passes a test.
greatest : (P : ℕ → Bool) (b x : ℕ) → ((y : ℕ) → T (P y) → y < b) → T (P x) → (n : ℕ) × T (P n) × ((y : ℕ) → T (P y) → y ≤ n)
greatest P zero x f t = absurd (let l = f x t in omega (arith, l))
greatest P (suc b) x f t = go (P b) refl (λ g. greatest P b x g t)
  where
    last : (y : ℕ) → y < suc b → y ≤ b
    last y l = omega (arith, l)

    lower : (y : ℕ) → y < suc b → y ≢ b → y < b
    lower y l n = grind arith

    go : (z : Bool) → P b ≡ z → (((y : ℕ) → T (P y) → y < b) → (n : ℕ) × T (P n) × ((y : ℕ) → T (P y) → y ≤ n)) → (n : ℕ) × T (P n) × ((y : ℕ) → T (P y) → y ≤ n)
    go true e h = (b, holds (P b) e, λ y u. last y (f y u))
    go false e h = h (λ y u. lower y (f y u) (λ q. absurd (subst T (ap P q ∙ e) u)))

pub volumes-have-greatest : (d : Durable) → WellFormed d → (n : ℕ) × T (not (is_gone (images d.volume n))) × AreAtMost (images d.volume) n
volumes-have-greatest d wf = greatest (λ x. not (is_gone (images d.volume x))) d.next_id root (known-id d wf) (dir-live (images d.volume root) wf.volume.root_is_dir)
