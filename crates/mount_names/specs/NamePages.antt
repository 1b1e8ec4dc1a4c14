-- How the names of a directory are listed.
use Rattle.std.specs.Prelude.{◌≡◌, ℕ, ◌+◌, List, length, map, take, drop, nat_lt}
use Rattle.std.specs.Borrow.{Bor}
use Rattle.std.specs.List.{AllZip}
use Rattle.plain_tree.specs.Nodes.{Name}
use Rattle.disk_tree.specs.Entries.{Entries}
use Rattle.mount_model.specs.ListAnswers.{in_order}
use Rattle.mount_model.specs.declared.limits.TheConstants.{MAX_LISTED}
use Rattle.mount_model.specs.declared.reply.Reply.{Reply}
use Rattle.mount_model.specs.declared.reply.Reply.TheVariants.{Names}
use Rattle.mount_names.specs.declared.reading.Reading.{Reading}
use Rattle.mount_names.specs.VisibleNames.{ShowsAs}

-- the names that the references are to
abbrev pub names_of : List (Bor Name) → List Name
names_of names = map (λ name. name.now) names

-- of these names, at most MAX_LISTED from number start on in the order of their bytes, and whether further
-- ones follow
abbrev pub page_from : ℕ → List Name → Reply
page_from start names =
    Names (take MAX_LISTED (drop start (in_order names)))
    (nat_lt (start + MAX_LISTED) (length (in_order names)))

-- the reply is the page of the visible names of the entries
abbrev pub IsPageOf : Reading → Entries → ℕ → Reply → Type 0
IsPageOf reading entries start reply =
    (names : List Name) → AllZip (λ e. ShowsAs reading e.0) entries names → reply ≡ page_from start names
