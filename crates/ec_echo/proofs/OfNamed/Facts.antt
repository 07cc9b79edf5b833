-- What is known of each drill that carried out lines of its script, whatever its status: the lines, beside the script and the disk.
use Rattle.std.proofs.Common.{◌≡◌, ◌⊎◌, ℕ, List, [], ◌++◌, length, refl, sym, subst, inl, inr}
use Rattle.std.proofs.Math.Logic.{∥∥₁_map}
use Rattle.std.specs.Io.KnownBytes.{Appends}
use Rattle.ec_volume.specs.Volume.{images}
use Rattle.ec_durable.specs.declared.state.Durable.{Durable}
use Rattle.ec_history.specs.declared.shown.Shown.{Shown}
use Rattle.ec_history.specs.declared.shown.Shown.TheVariants as show
use Rattle.ec_words.specs.OfText.Lines.{text_of}
use Rattle.ec_protocol.specs.Drill.{Read}
use Rattle.ec_lawful.specs.Drills.{lines_in}
use Rattle.ec_lawful.specs.Headline.{Pieces}
use Rattle.ec_world.specs.Steps.{Opens}
use Rattle.ec_complete.specs.Complete.{IsComplete}
use Rattle.ec_complete.specs.PlainScripts.{IsPlainScript}
use Rattle.ec_drill.specs.OfPromise.Behind.{BehindIsKept, IsKeptBehind, PartIsKept}
use Rattle.ec_drill.specs.OfPromise.Pieces.{first_lines, pieces_of}
use Rattle.ec_drill.specs.OfPromise.LawfulEnds.{AreLawfulOn, AreStoredOn, CleanIsLawful, CutIsLawful, HasNewDisk, IsLawful, PartIsLawful, PlainIsComplete, SpentIsLawful, WholeIsLawful}
use Rattle.ec_drill.specs.OfPromise.Rooms.{CleanTellsRoom, CutTellsRoom, PartTellsRoom, RoomIsTold, TellsRoom}
use Rattle.ec_drill.specs.OfPromise.Spent.{CleanTellsSpent, CutTellsSpent, PartTellsSpent, SpentIsTold, TellsSpent}
use Rattle.ec_drill.proofs.OfPromise.Lawful.{drills-lawful}
use Rattle.ec_drill.proofs.OfPromise.Rooms.{drills-told}
use Rattle.ec_drill.proofs.OfPromise.Spent.{drills-spent}
use Rattle.ec_drill.specs.Drill.{Outside, Drilled, HoldsState, IsCut, IsCutClean, IsGiven, IsToldAll, RanInPart, RanWhole, state_after}
use Rattle.ec_drill.specs.declared.status.Status.{Status}
use Rattle.ec_drill.specs.declared.status.Status.TheVariants as own
use Rattle.ec_echo.specs.Statuses.{code, of_drill}
use Rattle.ec_echo.specs.OfNamed.Forms.{outside}
use Rattle.ec_echo.specs.OfNamed.Runs.{IsUncut}
use Rattle.ec_drill.specs.Seen.{Stream, Store}
use Rattle.ec_echo.specs.OfNamed.Told.{WroteNone}
use Rattle.ec_echo.proofs.OfNamed.Bytes.{IsPart, is-part, line-wrote, more-none, refused-wrote, silent-wrote}

pub record Facts (most result : ℕ) (source sink : Stream) (store : Store) : Type 0 where
  pub reads : List Read
  pub given : IsGiven source reads
  pub state : Durable
  pub opens : Opens store.tells store.disk.gives most state
  -- the lines, in these pieces, and a part of one
  pub shown : List Shown
  pub pieces : Pieces
  pub part : List ℕ
  pub in_part : IsPart part
  pub whole : (result ≡ 5 → ⊥) → (result ≡ 9 → ⊥) → part ≡ []
  pub bytes : Appends sink.bytes sink.bytes_after (text_of shown ++ part)
  pub lawful : IsToldAll (outside source sink store) reads → ∥ AreLawfulOn reads state pieces shown ∥₁
  pub room : RoomIsTold (outside source sink store) reads state shown
  pub spent : SpentIsTold (outside source sink store) reads shown
  pub behind : IsKeptBehind (outside source sink store) reads state pieces shown
  pub plain : IsUncut result → HasNewDisk (outside source sink store) → IsPlainScript most reads → ∥ (result ≡ 0) × IsComplete (images state.volume) (lines_in reads) shown result ∥₁
  -- the state behind a run that ended by itself
  pub end : Durable
  pub stands : IsUncut result → store.tells → HoldsState store.disk_after end
  pub stored : IsUncut result → (result ≡ 15 → ⊥) → IsToldAll (outside source sink store) reads → ∥ AreStoredOn reads state end pieces shown ∥₁

module _ (most result : ℕ) (source sink : Stream) (store : Store) where
  abbrev w : Outside
  w = outside source sink store

  abbrev Known : Type 0
  Known = Facts most result source sink store ⊎ WroteNone result sink

  -- of a run that ended by itself
  run-facts : (number : ℕ) (r : RanWhole most number w) → result ≡ number → (IsToldAll w r.reads → ∥ AreLawfulOn r.reads r.state (pieces_of r.reads r.fates r.state) r.shown ∥₁)
      → ((result ≡ 15 → ⊥) → IsToldAll w r.reads → ∥ AreStoredOn r.reads r.state (state_after r.reads r.fates r.state) (pieces_of r.reads r.fates r.state) r.shown ∥₁)
      → BehindIsKept most number w r → PlainIsComplete most number w r → RoomIsTold w r.reads r.state r.shown → SpentIsTold w r.reads r.shown → Known
  run-facts number r e lawful stored behind plain room spent = inl (record {
    reads = r.reads;
    given = r.given;
    state = r.state;
    opens = r.opens;
    shown = r.shown;
    pieces = pieces_of r.reads r.fates r.state;
    part = [];
    in_part = inl refl;
    whole = λ five nine. refl;
    bytes = more-none sink.bytes sink.bytes_after (text_of r.shown) r.bytes;
    lawful = lawful;
    room = room;
    spent = spent;
    behind = behind;
    plain = λ uncut new is. subst (λ (k : ℕ). ∥ (k ≡ 0) × IsComplete (images r.state.volume) (lines_in r.reads) r.shown k ∥₁) (sym e) (plain new is);
    end = state_after r.reads r.fates r.state;
    stands = λ uncut. r.disk;
    stored = λ uncut. stored;
  })

  whole-facts : (number : ℕ) (r : RanWhole most number w) → result ≡ number → WholeIsLawful most number w r × BehindIsKept most number w r × PlainIsComplete most number w r → RoomIsTold w r.reads r.state r.shown → SpentIsTold w r.reads r.shown → Known
  whole-facts number r e is room spent = run-facts number r e (λ told. ∥∥₁_map (is.0 told) (λ a. ((a.0).whole).lawful)) (λ unspent told. ∥∥₁_map (is.0 told) (λ a. a.0)) is.1 is.2 room spent

  spent-facts : (r : RanWhole most 15 w) → result ≡ 15 → SpentIsLawful most 15 w r × BehindIsKept most 15 w r × PlainIsComplete most 15 w r → RoomIsTold w r.reads r.state r.shown → SpentIsTold w r.reads r.shown → Known
  spent-facts r e is room spent = run-facts 15 r e (λ told. ∥∥₁_map (is.0 told) (λ a. (a.0).lawful)) (λ unspent. absurd (unspent e)) is.1 is.2 room spent

  -- of one that was cut off
  part-facts : (last : List ℕ) (r : RanInPart most w last) → (IsUncut result → ⊥) → ((result ≡ 5 → ⊥) → (result ≡ 9 → ⊥) → last ≡ []) → PartIsLawful most w last r × PartIsKept most w last r → PartTellsRoom most w last r → PartTellsSpent most w last r → Known
  part-facts last r cut whole is room spent = inl (record {
    reads = r.reads;
    given = r.given;
    state = r.state;
    opens = r.opens;
    shown = r.shown;
    pieces = first_lines (length r.shown) (pieces_of r.reads r.fates r.state);
    part = last;
    in_part = is-part r.unwritten last r.part;
    whole = whole;
    bytes = r.bytes;
    lawful = λ told. ∥∥₁_map ((is.0).0 told) (λ a. a.0);
    room = room;
    spent = spent;
    behind = is.1;
    plain = λ uncut. absurd (cut uncut);
    end = r.state;
    stands = λ uncut. absurd (cut uncut);
    stored = λ uncut. absurd (cut uncut);
  })

  cut-facts : (IsUncut result → ⊥) → ((result ≡ 5 → ⊥) → (result ≡ 9 → ⊥) → ⊥) → (c : IsCut most w) → CutIsLawful most w c → CutTellsRoom most w c → CutTellsSpent most w c → Known
  cut-facts cut barred (inl part) is room spent = part-facts part.0 part.1 cut (λ five nine. absurd (barred five nine)) is room spent
  cut-facts cut barred (inr refused) is room spent = inr (refused-wrote result source sink store barred refused)

  clean-facts : (IsUncut result → ⊥) → (c : IsCutClean most w) → CleanIsLawful most w c → CleanTellsRoom most w c → CleanTellsSpent most w c → Known
  clean-facts cut (inl part) is room spent = part-facts [] part cut (λ five nine. refl) is room spent
  clean-facts cut (inr silent) is room spent = inr (silent-wrote result source sink store silent)

  facts-of : (st : Status) → result ≡ code (of_drill st) → (d : Drilled most st w) → IsLawful most st w d → TellsRoom most st w d → TellsSpent most st w d → Known
  facts-of own.Done e d is room spent = whole-facts 0 d e is room spent
  facts-of own.BadLine e d is room spent = whole-facts 3 d e is room spent
  facts-of own.Limit e (inl tells) is room spent = inr (line-wrote result source sink store (show.Limit tells.0 tells.1) tt tt tells.4)
  facts-of own.Limit e (inr d) is room spent = whole-facts 11 d e is room spent
  facts-of own.Spent e d is room spent = spent-facts d e is room spent
  facts-of own.SinkFault e d is room spent = cut-facts (λ uncut. uncut.0 e) (λ five nine. five e) d.1 is room spent
  facts-of own.DiskFault e d is room spent = clean-facts (λ uncut. uncut.1 e) d.1 is room spent
  facts-of own.NoMemory e (inl cut) is room spent = cut-facts (λ uncut. uncut.2 e) (λ five nine. nine e) cut is room spent
  facts-of own.NoMemory e (inr silent) is room spent = inr (silent-wrote result source sink store silent)
  facts-of own.Usage e d is room spent = absurd d
  facts-of own.SourceFault e d is room spent = inr (silent-wrote result source sink store d.1)
  facts-of own.BadDisk e d is room spent = inr (line-wrote result source sink store (show.DiskBad d.0) tt tt d.4)

  pub facts : (st : Status) → result ≡ code (of_drill st) → Drilled most st w → Facts most result source sink store ⊎ WroteNone result sink
  facts st e d = facts-of st e d (drills-lawful most st w d) (drills-told most st w d) (drills-spent most st w d)
