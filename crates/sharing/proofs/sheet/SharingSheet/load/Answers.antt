use Rattle.sharing.proofs.Encoded.{taken_exactly_if_encoded}
use Rattle.sharing.proofs.Refused.{refused_where_no_sheet_goes_on}
use Rattle.sharing.proofs.sheet.SharingSheet.load.Goals as goal

pub returns-in_err-self-clause-law : goal.returns-in_err-self-clause-law
returns-in_err-self-clause-law c = (taken_exactly_if_encoded, refused_where_no_sheet_goes_on)

pub returns-clause-law : goal.returns-clause-law
returns-clause-law c = (taken_exactly_if_encoded, refused_where_no_sheet_goes_on)
