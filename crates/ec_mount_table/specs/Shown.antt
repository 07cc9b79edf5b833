-- What calls over several volumes write.
use Rattle.std.specs.Prelude.{ℕ, List, [], ◌∷◌, ◌++◌, codes, drop, length}
use Rattle.std.specs.List.{flat_map}
use Rattle.std.specs.Fmt.{decimal}
use Rattle.ec_plain.specs.Walk.{Path}
use Rattle.ec_outs.specs.Outs.{Reply}
use Rattle.ec_words.specs.OfText.Answers.{answered_text}
use Rattle.ec_words.specs.OfText.Calls.{call_text}
use Rattle.ec_words.specs.OfText.Pieces.{numbers_text, path_text}
use Rattle.ec_mount_words.specs.OfRoute.Calls.{raised}
use Rattle.ec_mount_words.specs.OfRoute.Routes.{path_at}
use Rattle.ec_mount_table.specs.declared.script.Row.{Row}
use Rattle.ec_mount_table.specs.declared.seen.Seen.{Seen}
use Rattle.ec_mount_table.specs.declared.seen.Seen.TheVariants as seen

-- the number of a row's line
abbrev pub line_text : Row → List ℕ
line_text row = decimal row.line ++ codes " "

abbrev pub row_text : Row → List ℕ → List ℕ
row_text row answer = line_text row ++ call_text row.call ++ codes " -> " ++ answer ++ 10 ∷ []

abbrev pub sync_text : List ℕ → Path → Reply → List ℕ
sync_text front path reply = front ++ path_text path ++ codes " sync -> " ++ answered_text reply.0 reply.1 ++ 10 ∷ []

-- the volumes' answers to a sync, one line each
abbrev pub syncs_text : List ℕ → List Path → List Reply → List ℕ
syncs_text front (path ∷ table) (reply ∷ replies) = sync_text front path reply ++ syncs_text front table replies
syncs_text front _ _ = []

-- a row with what it met: the answer of its volume, with the numbers of its names raised; or why it went to none; or a line for each volume
abbrev pub seen_text : List Path → Row → Seen → List ℕ
seen_text table row (seen.To place reply) = row_text row (answered_text (raised (length (path_at table place)) reply.0) reply.1)
seen_text table row (seen.NoVolume number) = row_text row (codes "refused NoVolume " ++ decimal number)
seen_text table row seen.CrossVolume = row_text row (codes "refused CrossVolume")
seen_text table row (seen.All replies) = syncs_text (line_text row) table replies.items

abbrev pub rows_text : List Path → List Row → List Seen → List ℕ
rows_text table (row ∷ rows) (met ∷ mets) = seen_text table row met ++ rows_text table rows mets
rows_text table _ _ = []

-- the answers that came to a sync of the next row
abbrev pub part_text : List Path → List Row → List Reply → List ℕ
part_text table [] replies = []
part_text table (row ∷ rows) replies = syncs_text (line_text row) table replies

-- the operations that one volume told lost as a session ended
abbrev pub told_text : Path → List ℕ → List ℕ
told_text path ops = codes "told " ++ path_text path ++ codes " lost " ++ numbers_text ops ++ 10 ∷ []

-- volume by volume
abbrev pub all_told_text : List Path → List (List (List ℕ)) → List ℕ
all_told_text (path ∷ table) (lists ∷ told) = flat_map (told_text path) lists ++ all_told_text table told
all_told_text _ _ = []

-- the answers that came, and what was told lost
abbrev pub came_text : List Path → List Row → List Seen → List Reply → List (List (List ℕ)) → List ℕ
came_text table rows mets replies told = rows_text table rows mets ++ part_text table (drop (length mets) rows) replies ++ all_told_text table told

-- with the answers to the last syncs
abbrev pub mounts_text : List Path → List Row → List Seen → List (List (List ℕ)) → List Reply → List ℕ
mounts_text table rows mets told lasts = rows_text table rows mets ++ all_told_text table told ++ syncs_text (codes "end ") table lasts
