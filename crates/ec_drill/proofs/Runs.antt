-- The lines of a run, one behind the other.
use Rattle.std.proofs.Common.{◌≡◌, ◌+◌, ◌<◌, ◌≤◌, ℕ, Bool, true, false, List, [], ◌∷◌, ◌++◌, length, drop, Option, Some, None, refl, sym, ap, subst, ◌∙◌, append_assoc, append-nil, arith, inl}
use Rattle.std.specs.Prelude.{nat_lt}
use Rattle.ec_disk.specs.Disk.{View, Counts}
use Rattle.ec_history.specs.declared.shown.Shown.{Shown}
use Rattle.ec_protocol.specs.World.{Moving, pending, forget}
use Rattle.ec_protocol.specs.Drill.{Fates, Read, reads, unfit, Ran, ends, piece_before, run_from, joined, carry_out, max_pending, first_fates, rest_fates}
use Rattle.ec_protocol.specs.Drill as machine
use Rattle.ec_protocol.specs.declared.script.Line.{Line}
use Rattle.ec_protocol.specs.declared.world.World.{World}
use Rattle.ec_protocol.specs.declared.world.WorldFault.{WorldFault}
use Rattle.ec_words.specs.OfText.Lines.{text_of}
use Rattle.ec_drill.specs.Arms.{RunArms}
use Rattle.ec_drill.specs.Fates.{IsKnown}
use Rattle.ec_drill.specs.Left.{fates_behind, behind_lines, in_line, IsOfMoment}
use Rattle.ec_drill.specs.Steps.{going, behind_pieces, Sofar, Ended, IsCause, IsInLine, none_shown, some_shown, CutOff, LineDone, LineCut, ending_of}
use Rattle.ec_drill.specs.declared.running.Ending.{Ending}
use Rattle.ec_drill.specs.declared.running.Ending.TheVariants as ending
use Rattle.ec_drill.specs.declared.writing.Cut.{Cut}
use Rattle.ec_drill.proofs.Known.{known_first, known_later, one_line}
use Rattle.ec_drill.proofs.Texts.{nothing, text_of-append, texts_then, joined-append, joined-push}
use Rattle.ec_base.proofs.Numbers.{is-less, not-under}
use Rattle.ec_base.proofs.Lists.{appends_two}

-- One line.

-- what a run is behind a line that came to this
behind_line : ℕ → ℕ → ℕ → List Read → List Fates → Moving → Ran
behind_line k number col ls fs m =
    elim m.fault [
      | Some f ↦ ends m.world m.shown (machine.ending_of number col f)
      | None ↦ elim (nat_lt max_pending (pending m.world)) [
        | true ↦ ends m.world m.shown (machine.TooMany (pending m.world))
        | false ↦ piece_before m.shown (run_from k (number + 1) ls fs (forget m.world))
      ]
    ]

by_line : (k number col : ℕ) (l : Line) (ls : List Read) (fates : Fates) (more : List Fates) (w : World) (m : Moving) → carry_out k fates number l w ≡ m → run_from k number (reads l col ∷ ls) (fates ∷ more) w ≡ behind_line k number col ls more m
unfolding behind_line
by_line k number col l ls fates more w m e = ap (behind_line k number col ls more) e

pub line_goes : (k number col : ℕ) (l : Line) (ls : List Read) (fates : Fates) (more : List Fates) (w v : World) (piece : List Shown) → carry_out k fates number l w ≡ going v piece → pending v ≤ max_pending → run_from k number (reads l col ∷ ls) (fates ∷ more) w ≡ behind_pieces (piece ∷ []) (run_from k (number + 1) ls more (forget v))
unfolding behind_line
line_goes k number col l ls fates more w v piece e few =
    by_line k number col l ls fates more w (going v piece) e
    ∙ ap (λ (b : Bool). elim b [ true ↦ ends v piece (machine.TooMany (pending v)) | false ↦ piece_before piece (run_from k (number + 1) ls more (forget v)) ]) (not-under max_pending (pending v) few)

pub line_piles : (k number col : ℕ) (l : Line) (ls : List Read) (fates : Fates) (more : List Fates) (w v : World) (piece : List Shown) → carry_out k fates number l w ≡ going v piece → max_pending < pending v → run_from k number (reads l col ∷ ls) (fates ∷ more) w ≡ record { world = v; pieces = piece ∷ []; ending = machine.TooMany (pending v) }
unfolding behind_line
line_piles k number col l ls fates more w v piece e many =
    by_line k number col l ls fates more w (going v piece) e
    ∙ ap (λ (b : Bool). elim b [ true ↦ ends v piece (machine.TooMany (pending v)) | false ↦ piece_before piece (run_from k (number + 1) ls more (forget v)) ]) (is-less max_pending (pending v) many)

pub line_fails : (k number col : ℕ) (l : Line) (ls : List Read) (fates : Fates) (more : List Fates) (w v : World) (piece : List Shown) (f : WorldFault) → carry_out k fates number l w ≡ record (going v piece) { fault = Some f } → run_from k number (reads l col ∷ ls) (fates ∷ more) w ≡ record { world = v; pieces = piece ∷ []; ending = machine.ending_of number col f }
unfolding behind_line
line_fails k number col l ls fates more w v piece f e = by_line k number col l ls fates more w (record (going v piece) { fault = Some f }) e

-- the piece of a line stands first
first_shown : (k number col : ℕ) (ls : List Read) (fs : List Fates) (m : Moving) → (rest : List Shown) × (joined (behind_line k number col ls fs m).pieces ≡ m.shown ++ rest)
unfolding behind_line
first_shown k number col ls fs m =
    elim m.fault as (λ (x : Option WorldFault). let r : Ran = elim x [
      | Some f ↦ ends m.world m.shown (machine.ending_of number col f)
      | None ↦ elim (nat_lt max_pending (pending m.world)) [
        | true ↦ ends m.world m.shown (machine.TooMany (pending m.world))
        | false ↦ piece_before m.shown (run_from k (number + 1) ls fs (forget m.world))
      ]
    ] in (rest : List Shown) × (joined r.pieces ≡ m.shown ++ rest)) [
      | Some f ↦ ([], refl)
      | None ↦ elim (nat_lt max_pending (pending m.world)) as (λ (b : Bool). let r : Ran = elim b [
        | true ↦ ends m.world m.shown (machine.TooMany (pending m.world))
        | false ↦ piece_before m.shown (run_from k (number + 1) ls fs (forget m.world))
      ] in (rest : List Shown) × (joined r.pieces ≡ m.shown ++ rest)) [
        | true ↦ ([], refl)
        | false ↦ (joined (run_from k (number + 1) ls fs (forget m.world)).pieces, refl)
      ]
    ]

pub line_shows : (k number col : ℕ) (l : Line) (ls : List Read) (fates : Fates) (more : List Fates) (w : World) (m : Moving) → carry_out k fates number l w ≡ m → (rest : List Shown) × (joined (run_from k number (reads l col ∷ ls) (fates ∷ more) w).pieces ≡ m.shown ++ rest)
line_shows k number col l ls fates more w m e =
    let shown = first_shown k number col ls more m in
    (shown.0, ap (λ (r : Ran). joined r.pieces) (by_line k number col l ls fates more w m e) ∙ shown.1)

-- a line outside the grammar
pub line_unfit : (tells : Type 0) (old : Counts) (k number col : ℕ) (w : World) (held : Option (List ℕ)) → LineDone tells old old k number (unfit col) w w (Some (ending.BadLine number col)) held held
line_unfit tells old k number col w held = record {
  fates = [];
  are = inl tt;
  piece = [];
  run = λ known ahead more. refl;
  arms = λ known ahead more. tt;
  bytes = nothing held;
}

-- A run so far.

behind-two : (ps qs : List (List Shown)) (r : Ran) → behind_pieces ps (behind_pieces qs r) ≡ behind_pieces (ps ++ qs) r
behind-two ps qs r = ap (λ l. record r { pieces = l }) (sym (append_assoc ps qs r.pieces))

pub sofar : (tells : Type 0) (a k : ℕ) (armed : Option ℕ) (all : List Read) (start : World) (held : Option (List ℕ)) → Sofar tells a a k armed armed all start 1 all start held held
sofar tells a k armed all start held = record { done = []; split = refl; counted = refl; fates = []; each = refl; are = inl tt; pieces = []; run = λ known others more. refl; arms = λ known others more h. h; bytes = nothing held }

one-more : {X : Type 0} (xs : List X) (x : X) → length (xs ++ x ∷ []) ≡ length xs + 1
one-more [] x = refl
one-more (y ∷ xs) x = let e = one-more xs x in omega (arith, e)

-- what stands behind so many
drop-front : {X : Type 0} (xs ys : List X) (n : ℕ) → length xs ≡ n → drop n (xs ++ ys) ≡ ys
drop-front {X} xs ys n is = subst (λ (m : ℕ). drop m (xs ++ ys) ≡ ys) is (go xs)
  where
    go : (xs : List X) → drop (length xs) (xs ++ ys) ≡ ys
    go [] = refl
    go (x ∷ xs) = go xs

pub fates-here : (fs : List Fates) (f : Fates) (n : ℕ) → length fs ≡ n → fates_behind n (fs ++ f ∷ []) ≡ f
fates-here fs f n is = ap first_fates (drop-front fs (f ∷ []) n is)

-- the run over all lines
pub all_run : (tells : Type 0) (a b k : ℕ) (armed here : Option ℕ) (all : List Read) (start : World) (number : ℕ) (ahead : List Read) (w : World) (held mid : Option (List ℕ)) (s : Sofar tells a b k armed here all start number ahead w held mid) → IsKnown tells a b
    → (more : List Fates) → run_from k 1 all (s.fates ++ more) start ≡ behind_pieces s.pieces (run_from k number ahead more w)
all_run tells a b k armed here all start number ahead w held mid s known more = ap (λ ls. run_from k 1 ls (s.fates ++ more) start) (sym s.split) ∙ s.run known ahead more

-- the one over those that were carried out
done_run : (tells : Type 0) (a b k : ℕ) (armed here : Option ℕ) (all : List Read) (start : World) (number : ℕ) (ahead : List Read) (w : World) (held mid : Option (List ℕ)) (s : Sofar tells a b k armed here all start number ahead w held mid) → IsKnown tells a b
    → (more : List Fates) → run_from k 1 s.done (s.fates ++ more) start ≡ record { world = w; pieces = s.pieces; ending = machine.Done }
done_run tells a b k armed here all start number ahead w held mid s known more =
    ap (λ ls. run_from k 1 ls (s.fates ++ more) start) (sym (append-nil s.done)) ∙ s.run known [] more ∙ ap (λ l. record { world = w; pieces = l; ending = machine.Done }) (append-nil s.pieces)

module _ (tells : Type 0) (a b : ℕ) (old new : Counts) (k : ℕ) (armed : Option ℕ) (all : List Read) (start : World) (number : ℕ) (r : Read) (ahead : List Read) (w : World) (held mid now : Option (List ℕ)) (s : Sofar tells a b k armed old.armed all start number (r ∷ ahead) w held mid) (here : old.stops ≡ b) (from : a ≤ b) (later : old.stops ≤ new.stops) where
  before : IsKnown tells a new.stops → IsKnown tells a b
  before known = known_first tells a b new.stops (subst (λ (n : ℕ). n ≤ new.stops) here later) known

  inside : IsKnown tells a new.stops → IsKnown tells old.stops new.stops
  inside known = known_later tells a old.stops new.stops (subst (λ (n : ℕ). a ≤ n) (sym here) from) known

  to_line : (fates : Fates) (more : List Fates) → IsKnown tells a new.stops → run_from k 1 all ((s.fates ++ fates ∷ []) ++ more) start ≡ behind_pieces s.pieces (run_from k number (r ∷ ahead) (fates ∷ more) w)
  to_line fates more known = ap (λ fs. run_from k 1 all fs start) (append_assoc s.fates (fates ∷ []) more) ∙ all_run tells a b k armed old.armed all start number (r ∷ ahead) w held mid s (before known) (fates ∷ more)

  -- the lines that are carried out, with this one, before any others
  on_line : (fates : Fates) (others : List Read) (more : List Fates) → IsKnown tells a new.stops → run_from k 1 ((s.done ++ r ∷ []) ++ others) ((s.fates ++ fates ∷ []) ++ more) start ≡ behind_pieces s.pieces (run_from k number (r ∷ others) (fates ∷ more) w)
  on_line fates others more known =
      ap (λ ls. run_from k 1 ls ((s.fates ++ fates ∷ []) ++ more) start) (append_assoc s.done (r ∷ []) others)
      ∙ ap (λ fs. run_from k 1 (s.done ++ r ∷ others) fs start) (append_assoc s.fates (fates ∷ []) more)
      ∙ s.run (before known) (r ∷ others) (fates ∷ more)

  more_done : number + 1 ≡ length (s.done ++ r ∷ []) + 1
  more_done = let one = one-more s.done r in omega (arith, s.counted, one)

  more_fates : (f : Fates) → length (s.fates ++ f ∷ []) ≡ length (s.done ++ r ∷ [])
  more_fates f = one-more s.fates f ∙ ap (λ (n : ℕ). n + 1) s.each ∙ sym (one-more s.done r)

  -- a line more
  pub goes_on : (v : World) → LineDone tells old new k number r w v None mid now → Sofar tells a new.stops k armed new.armed all start (number + 1) ahead v held now
  goes_on v did = record {
    done = s.done ++ r ∷ [];
    split = append_assoc s.done (r ∷ []) ahead ∙ s.split;
    counted = more_done;
    fates = s.fates ++ did.fates ∷ [];
    each = more_fates did.fates;
    are = one_line s.fates did.fates a b old new here from later s.are did.are;
    pieces = s.pieces ++ did.piece ∷ [];
    run = λ known others more.
        on_line did.fates others more known ∙ ap (behind_pieces s.pieces) (did.run (inside known) others more)
        ∙ behind-two s.pieces (did.piece ∷ []) (run_from k (number + 1) others more v);
    arms = λ known others more rest.
        subst (λ (ls : List Read). RunArms k 1 ls ((s.fates ++ did.fates ∷ []) ++ more) start armed) (sym (append_assoc s.done (r ∷ []) others))
        (subst (λ (fs : List Fates). RunArms k 1 (s.done ++ r ∷ others) fs start armed) (sym (append_assoc s.fates (did.fates ∷ []) more))
        (s.arms (before known) (r ∷ others) (did.fates ∷ more) (did.arms (inside known) others more rest)));
    bytes = appends_two held mid now _ _ _ s.bytes did.bytes (sym (text_of-append (joined s.pieces) did.piece) ∙ ap text_of (sym (joined-push s.pieces did.piece)));
  }

  -- a line that ends the run
  pub ends_at : (v : World) (e : Ending) → LineDone tells old new k number r w v (Some e) mid now → Ended tells a new.stops k armed all start (ending_of e) v held now
  ends_at v e did = record {
    fates = s.fates ++ did.fates ∷ [];
    are = one_line s.fates did.fates a b old new here from later s.are did.are;
    pieces = s.pieces ++ did.piece ∷ [];
    run = λ known.
        ap (λ fs. run_from k 1 all fs start) (sym (append-nil (s.fates ++ did.fates ∷ []))) ∙ to_line did.fates [] known ∙ ap (behind_pieces s.pieces) (did.run (inside known) ahead []);
    arms = λ known. subst (λ (ls : List Read). RunArms k 1 ls (s.fates ++ did.fates ∷ []) start armed) s.split (s.arms (before known) (r ∷ ahead) (did.fates ∷ []) (did.arms (inside known) ahead []));
    bytes = appends_two held mid now _ _ _ s.bytes did.bytes (sym (text_of-append (joined s.pieces) did.piece) ∙ ap text_of (sym (joined-push s.pieces did.piece)));
  }

  -- what is left of the disk where a line is cut off
  left_at : (f : Fates) (written : List Shown) (image : List ℕ) → tells → IsInLine k number r w f written image → IsOfMoment k all (s.fates ++ f ∷ []) start (joined s.pieces ++ written) image
  left_at f written image told (none_shown none h) = record {
    world = w;
    shown = joined s.pieces;
    moment = behind_lines s.done (r ∷ ahead) s.split (run_from k 1 s.done (s.fates ++ f ∷ []) start) refl (ap (λ (x : Ran). x.world) ran) (ap (λ (x : Ran). joined x.pieces) ran);
    rest = [];
    holds = sym (ap (λ l. (joined s.pieces ++ l) ++ []) none ∙ append-nil (joined s.pieces ++ []) ∙ append-nil (joined s.pieces));
    stands = h;
  }
    where
      ran : run_from k 1 s.done (s.fates ++ f ∷ []) start ≡ record { world = w; pieces = s.pieces; ending = machine.Done }
      ran = done_run tells a b k armed old.armed all start number (r ∷ ahead) w held mid s (inl told) (f ∷ [])
  left_at f written image told (some_shown l column is j most rest shows h) = record {
    world = m.world;
    shown = joined s.pieces ++ m.shown;
    moment = in_line s.done ahead l column (ap (λ (x : Read). s.done ++ x ∷ ahead) (sym is) ∙ s.split) w s.pieces ran j most (ap (λ (x : Moving). x.world) here_is) (ap (λ (x : Moving). joined s.pieces ++ x.shown) here_is);
    rest = rest;
    holds = ap (λ l. joined s.pieces ++ l) shows ∙ sym (append_assoc (joined s.pieces) written rest);
    stands = h;
  }
    where
      m : Moving
      m = carry_out j f number l w

      ran : run_from k 1 s.done (s.fates ++ f ∷ []) start ≡ record { world = w; pieces = s.pieces; ending = machine.Done }
      ran = done_run tells a b k armed old.armed all start number (r ∷ ahead) w held mid s (inl told) (f ∷ [])

      here_is : carry_out j (fates_behind (length s.done) (s.fates ++ f ∷ [])) (length s.done + 1) l w ≡ m
      here_is = ap (λ (x : Fates). carry_out j x (length s.done + 1) l w) (fates-here s.fates f (length s.done) s.each) ∙ ap (λ (n : ℕ). carry_out j f n l w) (sym s.counted)

  -- one in which it's cut off
  pub cut_at : (seen : View) (c : Cut) (writes writes_now writes_after faults : ℕ) → LineCut tells old new seen k number r w c mid now writes_now writes_after
      → ((last : List ℕ) → IsCause c last writes_now writes_after old.faults new.faults → IsCause c last writes writes_after faults new.faults)
      → CutOff tells a new.stops seen k all start c held now writes writes_after faults new.faults
  cut_at seen c writes writes_now writes_after faults did cause = record {
    last = did.last;
    cause = cause did.last did.cause;
    part = record {
      fates = s.fates ++ did.fates ∷ [];
      are = one_line s.fates did.fates a b old new here from later s.are did.are;
      shown = joined s.pieces ++ did.shown;
      unwritten = did.unwritten;
      front = λ known.
          let rest = did.front (inside known) ahead [] in (
            rest.0,
            ap (λ fs. joined (run_from k 1 all fs start).pieces) (sym (append-nil (s.fates ++ did.fates ∷ [])))
                ∙ ap (λ (x : Ran). joined x.pieces) (to_line did.fates [] known)
                ∙ joined-append s.pieces (run_from k number (r ∷ ahead) (did.fates ∷ []) w).pieces
                ∙ ap (λ l. joined s.pieces ++ l) rest.1
                ∙ sym (append_assoc (joined s.pieces) did.shown (did.unwritten ++ rest.0)),
          );
      bytes = appends_two held mid now _ _ _ s.bytes did.bytes (texts_then (joined s.pieces) did.shown did.last);
      part = did.part;
      left = λ told image may. left_at did.fates did.shown image told (did.left told image may);
    };
  }

-- no line is left
pub ends_done : (tells : Type 0) (a b k : ℕ) (armed here : Option ℕ) (all : List Read) (start : World) (number : ℕ) (w : World) (held now : Option (List ℕ)) → Sofar tells a b k armed here all start number [] w held now → Ended tells a b k armed all start machine.Done w held now
ends_done tells a b k armed here all start number w held now s = record {
  fates = s.fates;
  are = s.are;
  pieces = s.pieces;
  run = λ known.
      ap (λ fs. run_from k 1 all fs start) (sym (append-nil s.fates)) ∙ all_run tells a b k armed here all start number [] w held now s known [] ∙ ap (λ l. record { world = w; pieces = l; ending = machine.Done }) (append-nil s.pieces);
  arms = λ known. subst (λ (ls : List Read). RunArms k 1 ls s.fates start armed) (sym (append-nil s.done) ∙ s.split) (subst (λ (fs : List Fates). RunArms k 1 s.done fs start armed) (append-nil s.fates) (subst (λ (ls : List Read). RunArms k 1 ls (s.fates ++ []) start armed) (append-nil s.done) (s.arms known [] [] tt)));
  bytes = s.bytes;
}

pub no_more : {X : Type 0} (xs : List X) (n : ℕ) → n ≡ length xs → n ≡ 0 → xs ≡ []
no_more [] n is none = refl
no_more (x ∷ xs) n is none = absurd (omega (arith, is, none))
