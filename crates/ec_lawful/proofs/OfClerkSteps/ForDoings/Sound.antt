-- Messages that a clerk in order sends are within their ranges.
use Rattle.std.proofs.Common.{◌≡◌, refl, sym, ap, subst, ◌∙◌, arith, ◌≤◌, ℕ, T, Bool, true, false, not, ◌&&◌, ◌==◌, cond, List, [], ◌∷◌, length, map}
use Rattle.std.specs.Prelude.{Some, nat_le, nat_lt}
use Rattle.std.specs.Ordering.{nat_cmp, is_lt}
use Rattle.std.specs.Cmp.{nat_cmp_total}
use Rattle.std.specs.FinMap.{is_sorted}
use Rattle.std.specs.FinMap.Entries.{below_all, by_order, is_sorted-put}
use Rattle.std.specs.List.{list_all}
use Rattle.std.specs.declared.cmp.Ordering.{Ordering}
use Rattle.std.specs.declared.cmp.Ordering.TheVariants.{Less, Equal, Greater}
use Rattle.std.proofs.lemmas.Bool.Decides.{nat_tests}
use Rattle.ec_base.specs.Tables.{Table, at, by_key, keys, put}
use Rattle.ec_base.specs.declared.ids.Hold.{Hold}
use Rattle.ec_volume.specs.Update.{distinct, is_sound as is_sound_update, member}
use Rattle.ec_history.specs.History.{Each}
use Rattle.ec_machine_laws.proofs.Batches.{at-put_same}
use Rattle.ec_machine_laws.proofs.Holding.{sorted-part}
use Rattle.ec_wire.specs.Messages.{is_held_mode, is_sound, rises}
use Rattle.ec_wire.specs.declared.msg.Msg.TheVariants.{Claim, Flush}
use Rattle.ec_cache.specs.Cache.{tokens}
use Rattle.ec_cache.specs.declared.state.CacheState.{CacheState}
use Rattle.ec_cache.specs.declared.state.Held.{Held}
use Rattle.ec_log.specs.Log.{after_pick, batch, ops_in, pick}
use Rattle.ec_log.specs.declared.state.Asked.{Asked}
use Rattle.ec_log.specs.declared.state.Pick.TheVariants.{Batch}
use Rattle.ec_log.specs.declared.state.LogState.{LogState}
use Rattle.ec_coherence.proofs.ForClerk.Evict.{IsAt, none-at}
use Rattle.ec_coherence.proofs.ForServer.Lists.{each-fewer, each-turn}
use Rattle.ec_lawful.proofs.OfClerkSteps.ForDoings.Logs.{InOrder, pick-order}
use Rattle.ec_base.proofs.Bools.{left as and_first, and-both as and_both, right as and_next}
use Rattle.ec_base.proofs.Numbers.{same-self as same, equal}
use Rattle.ec_base.proofs.Options.{none_some}
use Rattle.ec_coherence.proofs.ForClerk.CacheChange.{at-cons}
use Rattle.ec_coherence.proofs.ForBatches.Flushed.{all-hold}

pub lt-holds : (m n : ℕ) → T (is_lt (nat_cmp m n)) → T (nat_lt m n)
lt-holds m n h = grind (arith, nat_tests)

pub sorted-rises : {X : Type 0} (es : Table X) → T (is_sorted nat_cmp es) → T (rises (keys es))
sorted-rises [] s = tt
sorted-rises (e ∷ []) s = tt
sorted-rises (e ∷ f ∷ es) s =
    and_both (nat_lt e.0 f.0) (rises (keys (f ∷ es))) (lt-holds e.0 f.0 (and_first (is_lt (nat_cmp e.0 f.0)) (below_all nat_cmp e.0 es) (and_first (below_all nat_cmp e.0 (f ∷ es)) (is_sorted nat_cmp (f ∷ es)) s)))
    (sorted-rises (f ∷ es) (and_next (below_all nat_cmp e.0 (f ∷ es)) (is_sorted nat_cmp (f ∷ es)) s))

le-holds : (m n : ℕ) → m ≤ n → T (nat_le m n)
le-holds m n h = grind arith

-- A batch under way.
pub flush-sound : (l : LogState) → InOrder l → (s e b : ℕ) (ns : List ℕ) → at b l.batches ≡ Some ns → T (is_sound (Flush s e b (batch b l)))
flush-sound l o s e b ns w =
    let ops = batch b l in
    let few = o.few b ns w in
    let both : T (nat_le 1 (length ops) && nat_le (length ops) 64) = and_both (nat_le 1 (length ops)) (nat_le (length ops) 64) (le-holds 1 (length ops) few.0) (le-holds (length ops) 64 few.1) in
    and_both (nat_le 1 (length ops) && nat_le (length ops) 64 && rises (keys ops)) (list_all (λ op. is_sound_update op.1) ops)
    (and_both (nat_le 1 (length ops) && nat_le (length ops) 64) (rises (keys ops)) both (sorted-rises ops (sorted-part (λ op. member op.0 (ops_in b l)) l.undurable (o.log).sorted)))
    (all-hold (λ op. is_sound_update op.1) ops (each-fewer (λ op. T (is_sound_update op.1)) (λ op. member op.0 (ops_in b l)) l.undurable o.sound))

pub picked-sound : (l : LogState) → InOrder l → (a : Asked) (s e b : ℕ) (ns : List ℕ) → pick a l ≡ Batch b ns → T (is_sound (Flush s e b (batch b (after_pick (Batch b ns) l))))
picked-sound l o a s e b ns p = flush-sound (after_pick (Batch b ns) l) (subst (λ q. InOrder (after_pick q l)) p (pick-order l o a)) s e b ns (at-put_same b ns l.batches)

-- What is held is claimed by rising ids.

sorted-by_key : {X : Type 0} (es : Table X) → T (is_sorted nat_cmp (by_key es))
sorted-by_key [] = tt
sorted-by_key (e ∷ es) = is_sorted-put nat_cmp nat_cmp_total e.0 e.1 (by_key es) (sorted-by_key es)

module _ {X : Type 0} (P : X → Type 0) where
  put-each : (n : ℕ) (x : X) (es : Table X) → P x → Each (λ e. P e.1) es → Each (λ e. P e.1) (put n x es)
  put-each n x [] p h = (p, tt)
  put-each n x (e ∷ es) p h = go (nat_cmp n e.0) (put-each n x es p h.1)
    where
      go : (r : Ordering) → Each (λ e. P e.1) (put n x es) → Each (λ e. P e.1) (by_order r ((n, x) ∷ e ∷ es) ((e.0, x) ∷ es) (e ∷ put n x es))
      go Less q = (p, h)
      go Equal q = (p, h.1)
      go Greater q = (h.0, q)

  by_key-each : (es : Table X) → Each (λ e. P e.1) es → Each (λ e. P e.1) (by_key es)
  by_key-each [] h = tt
  by_key-each (e ∷ es) h = put-each e.0 e.1 (by_key es) h.0 (by_key-each es h.1)

modes : (es : Table Held) → Each {A = ℕ × Held} (λ e. T (is_held_mode (e.1).hold)) es → Each {A = ℕ × Hold} (λ e. T (is_held_mode e.1)) (map (λ e. (e.0, (e.1).hold)) es)
modes [] h = tt
modes (e ∷ es) h = (h.0, modes es h.1)

-- Entries of a table with distinct keys are what is found at them.

entries-at : (es : Table Held) → T (distinct (keys es)) → Each (IsAt es) es
entries-at [] h = tt
entries-at (e ∷ es) h = (at-cons e.0 e es ∙ ap (λ b. cond b (Some e.1) (at e.0 es)) (same e.0), each-turn (IsAt es) (IsAt (e ∷ es)) es later (entries-at es (and_next (not (member e.0 (keys es))) (distinct (keys es)) h)))
  where
    later : (d : ℕ × Held) → IsAt es d → IsAt (e ∷ es) d
    later d p = at-cons d.0 e es ∙ go (d.0 == e.0) refl
      where
        go : (b : Bool) → (d.0 == e.0) ≡ b → cond b (Some e.1) (at d.0 es) ≡ Some d.1
        go true q = absurd (none_some (sym (ap (λ y. at y es) (equal d.0 e.0 q) ∙ none-at e.0 es (and_first (not (member e.0 (keys es))) (distinct (keys es)) h)) ∙ p))
        go false q = p

pub claim-sound : (k : CacheState) → T (distinct (keys k.held)) → ((x : ℕ) (h : Held) → at x k.held ≡ Some h → T (is_held_mode h.hold)) → (s e : ℕ) → T (is_sound (Claim s e (tokens k)))
claim-sound k keyed held s e =
    let es : Table Hold = map (λ e. (e.0, (e.1).hold)) k.held in
    and_both (rises (keys (by_key es))) (list_all (λ t. is_held_mode t.1) (by_key es)) (sorted-rises (by_key es) (sorted-by_key es))
    (all-hold (λ t. is_held_mode t.1) (by_key es) (by_key-each (λ h. T (is_held_mode h)) es (modes k.held (each-turn (IsAt k.held) (λ e. T (is_held_mode (e.1).hold)) k.held (λ e p. held e.0 e.1 p) (entries-at k.held keyed)))))
