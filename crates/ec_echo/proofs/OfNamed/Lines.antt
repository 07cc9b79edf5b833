-- What holds of lawful lines holds of the lines of each drill.
use Rattle.std.proofs.Common.{◌≡◌, ◌⊎◌, ℕ, List, [], ◌∷◌, ◌++◌, refl, sym, ap, subst, ◌∙◌, inl, inr, arith, append_assoc, append-nil}
use Rattle.std.proofs.Math.Logic.{∥∥₁_map, ∥∥₁_map₂}
use Rattle.std.specs.Io.KnownBytes.{Appends}
use Rattle.ec_volume.specs.Update.{root}
use Rattle.ec_volume.specs.Volume.{images}
use Rattle.ec_durable.specs.Durable.{formatted}
use Rattle.ec_durable.specs.declared.state.Durable.{Durable}
use Rattle.ec_history.specs.History.{Base}
use Rattle.ec_history.specs.declared.shown.Shown.{Shown}
use Rattle.ec_words.specs.OfText.Lines.{text_of}
use Rattle.ec_lawful.specs.Headline.{AreLawful, placed_on}
use Rattle.ec_drill.specs.OfPromise.OfRooms.DrillRooms.{AreWithinRoom}
use Rattle.ec_drill.proofs.OfPromise.OfRooms.Rooms.{front-within}
use Rattle.ec_drill.specs.OfPromise.LawfulEnds.{AreLawfulOn}
use Rattle.ec_drill.specs.Seen.{Stream, Store}
use Rattle.ec_echo.specs.OfNamed.Seen.{IsNew}
use Rattle.ec_echo.specs.OfNamed.Told.{HoldsOfLines, OfLines, OnFronts, Wrote, WroteLines, WroteNone}
use Rattle.ec_echo.proofs.OfNamed.Bytes.{ends-early, formatted-greatest}
use Rattle.ec_echo.proofs.OfNamed.Facts.{Facts}

module _ (most result : ℕ) (source sink : Stream) (store : Store) where
  -- lawful lines of which P holds
  pub held : (P : Base → ℕ → List Shown → List Shown → Type 0) (f : Facts most result source sink store) (a : AreLawfulOn f.reads f.state f.pieces f.shown)
      → P (placed_on (images f.state.volume) a.top) f.state.max_objects a.told a.last → HoldsOfLines most result sink store P
  held P f a is = record {
    volume = images f.state.volume;
    limit = f.state.max_objects;
    new = λ (n : IsNew store). (ap (λ (d : Durable). images d.volume) (f.opens.empty n.0 n.1), ap (λ (d : Durable). d.max_objects) (f.opens.empty n.0 n.1));
    top = a.top;
    greatest = a.greatest;
    told = a.told;
    wrote = record {
      why = a.last;
      at_most_one = a.at_most_one;
      says = ends-early a.last a.why;
      part = f.part;
      in_part = f.in_part;
      whole = f.whole;
      bytes = subst (λ (ls : List Shown). Appends sink.bytes sink.bytes_after (text_of ls ++ f.part)) a.written f.bytes;
    };
    holds = is;
  }

  -- no line of a run
  none-held : (P : Base → ℕ → List Shown → Type 0) → ((base : Base) (limit : ℕ) → P base limit []) → Wrote result sink [] → HoldsOfLines most result sink store (OnFronts P)
  none-held P none wrote = record {
    volume = images (formatted most).volume;
    limit = most;
    new = λ n. (refl, refl);
    top = root;
    greatest = formatted-greatest most;
    told = [];
    wrote = wrote;
    holds = λ front rest e. subst (P (placed_on (images (formatted most).volume) root) most) (sym (no-front front rest e)) (none (placed_on (images (formatted most).volume) root) most);
  }
    where
      no-front : (front rest : List Shown) → front ++ rest ≡ [] → front ≡ []
      no-front [] rest e = refl
      no-front (x ∷ xs) rest e = absurd cc

  module _ (P : Base → ℕ → List Shown → Type 0) (from : (base : Base) (limit : ℕ) (front : List Shown) → AreLawful base limit front → AreWithinRoom limit front → P base limit front) where
    pub fronts-held : (f : Facts most result source sink store) (a : AreLawfulOn f.reads f.state f.pieces f.shown) → AreWithinRoom f.state.max_objects f.shown → HoldsOfLines most result sink store (OnFronts P)
    fronts-held f a room = held (OnFronts P) f a (λ front rest e. from (placed_on (images f.state.volume) a.top) f.state.max_objects front (a.fronts front rest e)
        (front-within f.state.max_objects front (rest ++ a.last) (subst (AreWithinRoom f.state.max_objects) (a.written ∙ ap (λ (ls : List Shown). ls ++ a.last) (sym e) ∙ append_assoc front rest a.last) room)))

    pub of-lines : ((base : Base) (limit : ℕ) → P base limit []) → Facts most result source sink store ⊎ WroteNone result sink → OfLines P result sink store most
    of-lines none (inl f) known = ∥∥₁_map₂ (f.lawful (inl known)) (f.room (inl known)) (λ a room. fronts-held f a room)
    of-lines none (inr wrote) known = ∣ none-held P none wrote.wrote ∣₁

  -- the bytes
  pub wrote-lines : Facts most result source sink store ⊎ WroteNone result sink → WroteLines result sink most
  wrote-lines (inl f) = (f.shown, record { why = []; at_most_one = omega arith; says = tt; part = f.part; in_part = f.in_part; whole = f.whole; bytes = subst (λ (ls : List Shown). Appends sink.bytes sink.bytes_after (text_of ls ++ f.part)) (sym (append-nil f.shown)) f.bytes })
  wrote-lines (inr wrote) = ([], wrote.wrote)
