use Rattle.std.proofs.Common.{Some, None, codes, rules}
use Rattle.std.proofs.lemmas.Slice.Eq.{strip_prefix_is}
use Rattle.std.proofs.lemmas.Bool.Decides.{Decides-eqb}
use Rattle.lines.proofs.Named.{only_offer, only_propose, only_hold, only_status, no_name}
use Rattle.lines.proofs.reading.read_call.Goals as goal

pub returns-in_err-read_words-clause-no_call : goal.returns-in_err-read_words-clause-no_call
returns-in_err-read_words-clause-no_call c is call l =
    let text = c.args.text.now in
    let named = strip_prefix_is Decides-eqb text (codes "offer") (Some c.in-Some.fields) c.in-Some.ensures.cases in
    let read = only_offer text c.in-Some.fields.now named call l in
    c.in_err-read_words.ensures.no_words (search rules) read.0 read.2

pub returns-in_err-room-clause-no_call : goal.returns-in_err-room-clause-no_call
returns-in_err-room-clause-no_call c is call l =
    let text = c.args.text.now in
    let named = strip_prefix_is Decides-eqb text (codes "propose") (Some c.in-Some-strip_prefix.fields) c.in-Some-strip_prefix.ensures.cases in
    let read = only_propose text c.in-Some-strip_prefix.fields.now named call l in
    (rw c.in_err-room.ensures.ok_part at c.read_number.ensures) read.0 read.2

pub returns-in_err-read_words-2-clause-no_call : goal.returns-in_err-read_words-2-clause-no_call
returns-in_err-read_words-2-clause-no_call c is call l =
    let text = c.args.text.now in
    let named = strip_prefix_is Decides-eqb text (codes "hold") (Some c.in-Some-strip_prefix-2.fields) c.in-Some-strip_prefix-2.ensures.cases in
    let read = only_hold text c.in-Some-strip_prefix-2.fields.now named call l in
    c.in_err-read_words-2.ensures.no_words (search rules) read.0 read.2

pub returns-in_err-atom-clause-no_call : goal.returns-in_err-atom-clause-no_call
returns-in_err-atom-clause-no_call c is call l =
    let text = c.args.text.now in
    let named = strip_prefix_is Decides-eqb text (codes "status") (Some c.in-Some-strip_prefix-3.fields) c.in-Some-strip_prefix-3.ensures.cases in
    let read = only_status text c.in-Some-strip_prefix-3.fields.now named call l in
    (rw c.in_err-atom.ensures.ok_part at c.read_number-in-Some-strip_prefix-3.ensures) read.0 read.2

pub returns-in-Some-strip_prefix-3-clause-call : goal.returns-in-Some-strip_prefix-3-clause-call
returns-in-Some-strip_prefix-3-clause-call c =
    record {
      rest = c.in-Some-strip_prefix-3.fields.now;
      named = strip_prefix_is Decides-eqb c.args.text.now (codes "status") (Some c.in-Some-strip_prefix-3.fields) c.in-Some-strip_prefix-3.ensures.cases;
      arguments = rw c.in_ok-atom.ensures.ok_part at c.read_number-in-Some-strip_prefix-3.ensures;
    }

pub returns-clause-no_call : goal.returns-clause-no_call
returns-clause-no_call c is =
    let text = c.args.text.now in
    no_name text
    (strip_prefix_is Decides-eqb text (codes "offer") None c.in_default.ensures.cases)
    (strip_prefix_is Decides-eqb text (codes "propose") None c.in_default-strip_prefix.ensures.cases)
    (strip_prefix_is Decides-eqb text (codes "hold") None c.in_default-strip_prefix-2.ensures.cases)
    (strip_prefix_is Decides-eqb text (codes "status") None c.in_default-strip_prefix-3.ensures.cases)
