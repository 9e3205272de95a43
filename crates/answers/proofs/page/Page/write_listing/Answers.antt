-- `write_listing` puts entries onto the page, then their count. The loop's invariant: so many entries are there (`Pages`' `entry_more`, `row`). Assumes nothing.
use Rattle.std.proofs.Common.{length, length-append, refl, ◌∙◌, rules}
use Rattle.digits.specs.Loops.{upto}
use Rattle.answers.proofs.Pages.{entry_more, row}
use Rattle.answers.proofs.page.Page.write_listing.Goals as goal

pub loop-key-init : goal.loop-key-init
unfolding upto
loop-key-init c = record { same = refl; entries = refl }

pub loop-key-preserved : goal.loop-key-preserved
loop-key-preserved c =
    let l = c.loop-key in
    let r = row c.args.keys.now c.args.values.now l.yielded c.into_iter-key-iterator.result l.key-iterator c.next.new.self (c.in-Some.key, c.in-Some.value) (search rules) (search rules) l.yielded_by c.in-Some.ensures.steps in
    record {
      same = c.write_answer.ensures.same ∙ l.invariant.same;
      entries = entry_more _ _ (length l.yielded) _ _ _ _ _ _ l.invariant.entries c.write_answer.ensures.page (length-append l.yielded _) r.0 r.1;
    }
