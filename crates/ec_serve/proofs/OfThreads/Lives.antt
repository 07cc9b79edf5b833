-- The links that are being served, under their keys.
use Rattle.std.proofs.Common.{◌≡◌, ◌≢◌, ◌⊎◌, ◌+◌, ℕ, suc, true, length, List, [], ◌∷◌, Option, Some, None, IfSome, sym, ap, ◌∙◌, subst, inl, inr, ⊎_elim, slice_index_or, arith}
use Rattle.std.specs.Prelude.{count_by, is_some}
use Rattle.std.specs.List.{All}
use Rattle.std.proofs.lemmas.Bool.{cases_eq}
use Rattle.std.proofs.lemmas.List.Elements.{All-nil, All-cons}
use Rattle.slab.specs.Slab.{Slab, slab_len, get, Updates, entries_from, entries}
use Rattle.ec_serve.specs.declared.threads.connections.Tally.{Tally}
use Rattle.ec_serve.specs.OfThreads.Tallies.{NoneComes, GivesBack, AreLive, AllEnded}
use Rattle.ec_serve.specs.OfThreads.ServingMoments.{AllServe}

module _ {T S : Type 0} (server_of : T → S) (server : S) where
  -- one link more, or one less
  pub serve_update : (old new : Slab T) (key : ℕ) (slot : Option T) → Updates old new key slot → IfSome slot (λ one. server_of one ≡ server) → AllServe server_of server old → AllServe server_of server new
  serve_update old new key slot u here all k =
      ⊎_elim
      (λ (same : k ≡ key). subst (λ n. IfSome (get new n) (λ one. server_of one ≡ server)) (sym same) (subst (λ o. IfSome o (λ one. server_of one ≡ server)) (sym u.changed) here))
      (λ (differs : k ≢ key). subst (λ o. IfSome o (λ one. server_of one ≡ server)) (sym (u.others k differs)) (all k))
      (cases_eq k key)

  all_from : (key : ℕ) (slots : List (Option T)) → ((k : ℕ) → IfSome (slice_index_or slots k None) (λ one. server_of one ≡ server)) → All (λ e. server_of e.1 ≡ server) (entries_from key slots)
  all_from key [] h = All-nil (λ e. server_of e.1 ≡ server)
  all_from key (None ∷ rest) h = all_from (key + 1) rest (λ k. h (suc k))
  all_from key (Some one ∷ rest) h = All-cons (λ e. server_of e.1 ≡ server) (key, one) (entries_from (key + 1) rest) (h 0) (all_from (key + 1) rest (λ k. h (suc k)))

  -- each of them
  pub all_entries : (live : Slab T) → AllServe server_of server live → All (λ e. server_of e.1 ≡ server) (entries live)
  all_entries live h = all_from 0 live.slots h

module _ {L : Type 0} where
  -- what comes back later brings no further link
  none_later : (n : ℕ) (mid new : Tally L) → GivesBack n mid new → NoneComes mid → NoneComes new
  none_later n mid new gone none =
      ⊎_elim (λ (e : mid.left ≡ 0). inl (gone.0 ∙ e)) (λ (e : (mid.failed ≡ true) ⊎ (mid.wants ≡ true)). inr (⊎_elim (λ (f : mid.failed ≡ true). inl (gone.2 ∙ f)) (λ (w : mid.wants ≡ true). inr (gone.4 w)) e)) none

  -- where none was live at first, those that are live come back in the end
  pub all_ended : {T : Type 0} (old mid new : Tally L) (first : Slab T) (live : ℕ) → first.slots ≡ [] → AreLive old mid (slab_len first) live → NoneComes mid → GivesBack live mid new → AllEnded old new
  all_ended old mid new first live empty are none gone = (
    (let begun = ap (λ t. length t.items) gone.1 in let back = gone.3 in let all = are in let nobody = ap (λ slots. count_by is_some slots) empty in omega (arith, begun, back, all, nobody)),
    none_later live mid new gone none,
  )
