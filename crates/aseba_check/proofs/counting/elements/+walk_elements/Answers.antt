use Rattle.aseba_check.proofs.ViewLaws.{items-view}
use Rattle.aseba_check.proofs.counting.elements.+walk_elements.Goals as goal

pub form_count-returns-in-Items : goal.form_count-returns-in-Items
form_count-returns-in-Items t c = rw (c.in-Items.is, items-view c.in-Items.items) c.items_count.ensures
