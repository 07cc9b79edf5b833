-- The words of calls.
use Rattle.std.specs.Prelude.{ℕ, List, ◌∷◌, ◌++◌, codes}
use Rattle.std.specs.List.{flat_map}
use Rattle.std.specs.Fmt.{decimal}
use Rattle.ec_plain.specs.Walk.{Path}
use Rattle.ec_plain.specs.declared.call.Call.{Call}
use Rattle.ec_plain.specs.declared.call.Call.TheVariants as call
use Rattle.ec_words.specs.OfText.Pieces.{escaped, path_text, octal}

abbrev pub next_path : Path → List ℕ
next_path p = 32 ∷ path_text p

abbrev pub call_text : Call → List ℕ
call_text (call.Mkdir p) = codes "mkdir " ++ path_text p
call_text (call.Create p) = codes "create " ++ path_text p
call_text (call.Write p at bytes) = codes "write " ++ path_text p ++ codes " " ++ decimal at ++ codes " " ++ escaped bytes
call_text (call.SetLen p len) = codes "setlen " ++ path_text p ++ codes " " ++ decimal len
call_text (call.Read p at count) = codes "read " ++ path_text p ++ codes " " ++ decimal at ++ codes " " ++ decimal count
call_text (call.Chmod p mode) = codes "chmod " ++ path_text p ++ codes " " ++ octal mode
call_text (call.Touch p stamp) = codes "touch " ++ path_text p ++ codes " " ++ decimal stamp
call_text (call.Stat p) = codes "stat " ++ path_text p
call_text (call.List p) = codes "list " ++ path_text p
call_text (call.Remove p) = codes "remove " ++ path_text p
call_text (call.Rmdir p) = codes "rmdir " ++ path_text p
call_text (call.Rename p q) = codes "rename " ++ path_text p ++ codes " " ++ path_text q
call_text (call.Fsync p) = codes "fsync " ++ path_text p
call_text (call.Forder ps) = codes "forder" ++ flat_map next_path ps
call_text call.Sync = codes "sync"
call_text (call.Chown p owner) = codes "chown " ++ path_text p ++ codes " " ++ decimal owner
