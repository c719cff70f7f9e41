use Rattle.tcap_dialogues.proofs.WholeLaws.{all_gathered, next_gathered}
use Rattle.tcap_dialogues.proofs.laws.handed_over_are_all.Goals as goal

pub returns-clause-next : goal.returns-clause-next
returns-clause-next c = λ reuse headings before given are h more. next_gathered reuse headings before given are h more

pub returns-clause-end : goal.returns-clause-end
returns-clause-end c = λ reuse headings before given are more. all_gathered reuse headings before given are more
