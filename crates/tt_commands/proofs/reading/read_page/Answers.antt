-- A page of so many rows is one of the first rows, and any other has all of them.
use Rattle.std.proofs.Common.{◌≡◌, sym, subst}
use Rattle.tt_requests.specs.declared.request.Page.{Page}
use Rattle.tt_commands.specs.Answers.{Becomes}
use Rattle.tt_commands.specs.Readings.{answer_to}
use Rattle.tt_commands.specs.Pages.{page_after, first_page}
use Rattle.tt_commands.proofs.reading.read_page.Goals as goal

pub returns-in-Some : goal.returns-in-Some
returns-in-Some c =
    let a = c.args in
    let is : first_page a.page.after c.in-Some.most ≡ a.page = λ i. record { after = a.page.after; most = sym c.in-Some.is i } in
    subst (λ (page : Page). Becomes a.session.now c.read_first.result (answer_to a.session.now a.reading page)) is c.read_first.ensures

pub returns-in-None : goal.returns-in-None
returns-in-None c =
    let a = c.args in
    let is : page_after a.page.after ≡ a.page = λ i. record { after = a.page.after; most = sym c.in-None.is i } in
    subst (λ (page : Page). Becomes a.session.now c.read_all.result (answer_to a.session.now a.reading page)) is c.read_all.ensures
