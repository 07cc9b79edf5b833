-- Which tokens go where a clerk has too many, and what a step leaves of its cache, as contracts name it.
use Rattle.std.specs.Prelude.{◌≡◌, ◌≤◌, ◌+◌, ◌-◌, ℕ, true, false, List, [], ◌++◌, length, map, take, None, Some}
use Rattle.ec_base.specs.Tables.{Table, at, keys}
use Rattle.ec_base.specs.declared.ids.Hold.TheVariants.{Free}
use Rattle.ec_history.specs.History.{Each}
use Rattle.ec_volume.specs.Update.{member}
use Rattle.ec_wire.specs.declared.msg.Msg.TheVariants.{Back}
use Rattle.ec_cache.specs.Cache.{evicted}
use Rattle.ec_cache.specs.Held.{unpinned}
use Rattle.ec_cache.specs.declared.state.CacheState.{CacheState}
use Rattle.ec_cache.specs.declared.state.Held.{Held}
use Rattle.ec_protocol.specs.Clerk as clerk
use Rattle.ec_protocol.specs.Clerk.{Doing, max_tokens}
use Rattle.ec_protocol.specs.declared.clerk.Out.{Out}
use Rattle.ec_protocol.specs.declared.clerk.Out.TheVariants as out
use Rattle.ec_quiet.specs.Facts.{token_of}
use Rattle.ec_quiet.specs.Scenes.{Mail}

-- the number isn't above this one
abbrev pub IsOld : ℕ → ℕ × Held → Type 0
IsOld n e = (e.1).number ≤ n

-- Where enough of those that stand first in the order of use aren't pinned, only those go: so none of a later number goes, where they have none.
abbrev pub OldOnesGo : Type 0
OldOnesGo = (pinned : List ℕ) (k : CacheState) (olds news : Table Held) → k.held ≡ olds ++ news → length k.held ≤ k.capacity + length (unpinned pinned olds)
    → (evicted pinned k ≡ take (length k.held - k.capacity) (unpinned pinned olds)) × ((n : ℕ) → Each (IsOld n) olds → Each (IsOld n) (evicted pinned k))

-- A step leaves the cache k like this: the tokens es, which it held, have gone, and of the others each keeps its mode and its number.
pub record Leaves (es : Table Held) (k m : CacheState) : Type 0 where
  pub capacity : m.capacity ≡ k.capacity
  pub lasts : m.lasts ≡ k.lasts
  pub limits : k.limits ≡ [] → m.limits ≡ []
  pub stay : (x : ℕ) → member x (keys es) ≡ false → token_of (at x m.held) ≡ token_of (at x k.held)
  pub go : (x : ℕ) → member x (keys es) ≡ true → at x m.held ≡ None
  pub held : Each {A = ℕ × Held} (λ e. token_of (at e.0 k.held) ≡ token_of (Some e.1)) es

-- it has no more tokens than before, and the same ones
abbrev pub Uses : CacheState → CacheState → Type 0
Uses k m = Leaves [] k m × (length m.held ≤ length k.held)

-- the token goes back
abbrev pub back_out : Doing → ℕ × Held → Out
back_out d e = out.Send (Back (clerk.session d) (clerk.epoch d) e.0 (e.1).number Free)

-- the messages of tokens that go back
abbrev pub back_mail : ℕ → ℕ → ℕ → Table Held → Mail
back_mail c s e es = map (λ (t : ℕ × Held). (c, Back s e t.0 (t.1).number Free)) es

abbrev pub less_tokens : CacheState → Table Held → Doing → Doing
less_tokens m es d = record d { clerk = record (d.clerk) { cache = m }; outs = d.outs ++ map (back_out d) es }

-- At the end of the step the tokens that are too many go back, all of them old.
pub record Evicts (n : ℕ) (d : Doing) : Type 0 where
  pub cache : CacheState
  pub gone : Table Held
  pub is : clerk.evict d ≡ less_tokens cache gone d
  pub leaves : Leaves gone d.clerk.cache cache
  pub part : cache.held ≡ unpinned (keys gone) d.clerk.cache.held
  pub old : Each (IsOld n) gone
  pub room : length cache.held ≤ max_tokens
  pub few : length gone ≤ length d.clerk.cache.held - max_tokens
  pub none : length d.clerk.cache.held ≤ max_tokens → cache ≡ d.clerk.cache
