-- One page of the rows that a select or a preview has.
use Rattle.std.specs.Prelude.{ℕ, ℤ, nat_lt, List, length, take, Option, None, Some}
use Rattle.tt_values.specs.declared.row.Row.{Row}
use Rattle.tt_values.specs.declared.reply.Reply.{Reply}
use Rattle.tt_db.specs.Pages.{rows_after, rows_in}
use Rattle.tt_requests.specs.declared.request.Page.{Page}
use Rattle.tt_answers.specs.declared.answer.RowPage.{RowPage}

-- the page of all rows with greater keys than this one, if one is given
abbrev pub page_after : Option ℤ → Page
page_after key = record { after = key; most = None }

-- the page of the first rows with greater keys than this one, if one is given, at most this number
abbrev pub first_page : Option ℤ → ℕ → Page
first_page key most = record { after = key; most = Some most }

-- the first rows, at most this number, and whether more follow; all rows, where no number is given
abbrev pub first_rows : Option ℕ → List Row → RowPage
first_rows None rows = record { rows = rows; more = None }
first_rows (Some most) rows = record { rows = take most rows; more = Some (nat_lt most (length rows)) }

-- the rows that a page asks for
abbrev pub page_of_rows : Page → List Row → RowPage
page_of_rows page rows = first_rows page.most (rows_after page.after rows)

-- the rows of a reply that a page asks for
abbrev pub page_of_reply : Page → Reply → RowPage
page_of_reply page reply = page_of_rows page (rows_in reply)
