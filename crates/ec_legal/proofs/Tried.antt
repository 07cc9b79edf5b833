-- Lines behind those that were judged as they came.
use Rattle.std.proofs.Common.{◌≡◌, sym, ap, subst, ◌∙◌, arith, inr, ◌≤◌, ◌+◌, ℕ, List, ◌∷◌, ◌++◌, length, length-append, append_assoc}
use Rattle.std.proofs.lemmas.List.{take-append-le}
use Rattle.ec_history.specs.Legal.{from_formatted}
use Rattle.ec_history.specs.Placing.{place}
use Rattle.ec_history.specs.declared.rule.Rule.{Rule}
use Rattle.ec_history.specs.declared.shown.Shown.{Shown}
use Rattle.ec_judge.specs.Faults.{IsFirstEntry}
use Rattle.ec_lines.specs.Faults.{IsFirstLine}
use Rattle.ec_lines.specs.Following.{Follows}
use Rattle.ec_watch.specs.Watches.{AreWatched}
use Rattle.ec_legal.specs.Ahead.{IsAhead, AreTold, placed_from}
use Rattle.ec_legal.specs.Tried.{IsTried, IsFollowed, Stops}
use Rattle.ec_legal.specs.declared.ahead.Ahead.{Ahead}
use Rattle.ec_legal.specs.declared.judging.Trial.{Trial}
use Rattle.ec_legal.specs.declared.judging.Stop.{Stop}
use Rattle.ec_legal.specs.declared.judging.Stop.TheVariants as stop
use Rattle.ec_legal.proofs.Told.{told-more}

ahead-more : (a : Ahead) (ss more : List Shown) → IsAhead a ss → AreTold ss a.settled → IsAhead a (ss ++ more)
ahead-more a ss more h t =
    let long : length (ss ++ more) ≡ length ss + length more = length-append ss more in
    let settled : a.settled ≤ length ss = omega (arith, h.known, h.within) in
    let placed : a.placed ≤ length ss = omega (arith, h.behind, settled) in
    record {
      behind = h.behind;
      known = h.known;
      within = omega (arith, long, h.within);
      follows = subst (Follows a.following) (sym (take-append-le a.followed ss more h.within)) h.follows;
      settles = inr (told-more ss more a.settled settled t);
      watched = subst (AreWatched a.watches.items) (sym (take-append-le a.placed ss more placed)) h.watched;
    }

pub tried-more : (most : ℕ) (t : Trial) (ss more : List Shown) → IsTried most t ss → IsTried most t (ss ++ more)
tried-more most t ss more h =
    let settled : t.ahead.settled ≤ length ss = omega (arith, h.ahead.known, h.ahead.within) in
    record {
      ahead = ahead-more t.ahead ss more h.ahead h.told;
      told = told-more ss more t.ahead.settled settled h.told;
      entries = λ rest. subst (λ ts. place ts ≡ t.judging ++ (t.entries.items ++ placed_from ts t.ahead.placed)) (sym (append_assoc ss more rest)) (h.entries (more ++ rest));
      legal = h.legal;
    }

line-more : (ss more : List Shown) (p : ℕ) (r : Rule) → IsFirstLine ss p r → IsFirstLine (ss ++ more) p r
line-more ss more p r k = record {
  above = k.above;
  line = k.line;
  below = k.below ++ more;
  parts = sym (append_assoc k.above (k.line ∷ k.below) more) ∙ ap (λ ts. ts ++ more) k.parts;
  place = k.place;
  placeable = k.placeable;
  broken = k.broken;
}

followed-more : (a : Ahead) (ss more : List Shown) → IsFollowed a ss → IsFollowed a (ss ++ more)
followed-more a ss more h =
    let long : length (ss ++ more) ≡ length ss + length more = length-append ss more in
    record {
      within = omega (arith, long, h.within);
      follows = subst (Follows a.following) (sym (take-append-le a.followed ss more h.within)) h.follows;
    }

pub stops-more : (most : ℕ) (a : Ahead) (ss more : List Shown) (s : Stop) → Stops most a ss s → Stops most a (ss ++ more) s
stops-more most a ss more (stop.Line p r) k = line-more ss more p r k
stops-more most a ss more (stop.Entry p r) k =
    (followed-more a ss more k.0, λ rest. subst (λ ts. IsFirstEntry from_formatted most (place ts) p r) (sym (append_assoc ss more rest)) (k.1 (more ++ rest)))
stops-more most a ss more stop.NoMemory k = tt
