use Rattle.tcap_books.proofs.BookLaws.{plain_law}
use Rattle.tcap_books.proofs.book.Book.from_json.Goals as goal

pub returns : goal.returns
returns c = record {
  book = c.read_book.ensures;
  plain = λ table fine bare. plain_law c.args.octets.now table c.read_book.result bare (c.read_book.ensures fine);
}
