-- A clerk takes a Grant.
use Rattle.std.proofs.Common.{◌≡◌, refl, sym, ap, subst, ◌∙◌, inr, arith, ℕ, Bool, true, false, ◌&&◌, ◌<◌}
use Rattle.std.specs.Prelude.{◌==◌, Some, nat_lt}
use Rattle.ec_base.specs.Tables.{renewed, put, without}
use Rattle.ec_base.specs.declared.ids.Hold.{Hold}
use Rattle.ec_volume.specs.declared.image.Image.{Image}
use Rattle.ec_wire.specs.declared.msg.Msg.TheVariants.{Grant}
use Rattle.ec_cache.specs.Cache as cache
use Rattle.ec_cache.specs.Cache.{last}
use Rattle.ec_cache.specs.declared.state.CacheState.{CacheState}
use Rattle.ec_protocol.specs.declared.clerk.Clerk.{Clerk}
use Rattle.ec_protocol.specs.Clerk.{Doing, in_session, with_cache, is_session, epoch}
use Rattle.ec_coherence.specs.Clerks.{acting}
use Rattle.ec_coherence.specs.Tokens.{View, side, Fits, TokensAgree}
use Rattle.ec_coherence.proofs.ForClerk.Acting.{is-in, moves-act}
use Rattle.ec_coherence.proofs.ForClerk.Caches.{last-put}
use Rattle.ec_coherence.proofs.ForClerk.OneObject.{OneSide, one-moves}
use Rattle.std.proofs.lemmas.Bool.{and_parts}
use Rattle.ec_base.proofs.Numbers.{equal}
use Rattle.ec_coherence.proofs.ForClerk.CacheChange.{at-renewed}

-- What is for the session that the clerk is in, of its epoch, is taken; all else is passed over.
pub by-session : (P : Doing → Type 0) (d : Doing) (s t e : ℕ) (f : Doing → Doing) → d.clerk.session ≡ Some s → P d → (t ≡ s → e ≡ d.clerk.epoch → P (f d)) → P (in_session t e f d)
by-session P d s t e f own off on = go (is_session t d.clerk.session && (e == epoch d)) refl
  where
    go : (b : Bool) → (is_session t d.clerk.session && (e == epoch d)) ≡ b → P (elim b [ true ↦ f d | false ↦ d ])
    go true p = let q = and_parts (is_session t d.clerk.session) (e == epoch d) p in on (equal t s (sym (ap (is_session t) own) ∙ q.0)) (equal e d.clerk.epoch q.1)
    go false p = off

-- the cache with the token
abbrev with_token : ℕ → Hold → ℕ → Image → CacheState → CacheState
with_token x h n i k = record k { held = renewed x (record { hold = h; number = n; image = i }) k.held; lasts = put x n k.lasts; limits = without x k.limits }

module _ (w : View) (c s x n : ℕ) (h : Hold) (i : Image) (d : Doing) (agree : TokensAgree (acting w c s d)) (fits : Fits (acting w c s d) (Grant s d.clerk.epoch x n h i)) where
  abbrev clerk : Clerk
  clerk = record (d.clerk) { cache = with_token x h n i d.clerk.cache }

  one : last x d.clerk.cache < n → OneSide (acting w c s d) s (side d.clerk) (side clerk) x (Some (record { hold = h; number = n; image = i })) n
  one l = record {
    was = is-in w c s d;
    epoch = refl;
    got = refl;
    held = λ y. at-renewed y x (record { hold = h; number = n; image = i }) d.clerk.cache.held;
    number = λ y. last-put y x n d.clerk.cache.lasts;
    moved = (omega arith, inr (record { hold = h; number = n; image = i }, refl, refl, l, (fits.4 (side d.clerk) (is-in w c s d) refl l).0));
    names = inr fits.3;
    recalls = agree.recalled s (side d.clerk) (is-in w c s d);
  }

  pub grant-agrees : TokensAgree (acting w c s (with_cache (cache.take x h n i) d))
  grant-agrees = go (cache.is_new x n d.clerk.cache) refl
    where
      above : (b a : ℕ) → nat_lt b a ≡ true → b < a
      above b a p = grind arith

      go : (b : Bool) → cache.is_new x n d.clerk.cache ≡ b → TokensAgree (acting w c s (record d { clerk = record (d.clerk) { cache = elim b [ false ↦ d.clerk.cache | true ↦ with_token x h n i d.clerk.cache ] } }))
      go true p = moves-act w c s d clerk agree (one-moves (acting w c s d) s (side d.clerk) (side clerk) x (Some (record { hold = h; number = n; image = i })) n agree (one (above (last x d.clerk.cache) n p)))
      go false p = agree

-- a Grant of any session and epoch
pub take-grant-agrees : (w : View) (c s t e x n : ℕ) (h : Hold) (i : Image) (d : Doing) → d.clerk.session ≡ Some s → TokensAgree (acting w c s d) → Fits (acting w c s d) (Grant t e x n h i)
    → TokensAgree (acting w c s (in_session t e (with_cache (cache.take x h n i)) d))
take-grant-agrees w c s t e x n h i d own agree fits = by-session (λ z. TokensAgree (acting w c s z)) d s t e (with_cache (cache.take x h n i)) own agree
    (λ p q. grant-agrees w c s x n h i d agree (subst (λ z. Fits (acting w c s d) (Grant s z x n h i)) q (subst (λ z. Fits (acting w c s d) (Grant z e x n h i)) p fits)))
