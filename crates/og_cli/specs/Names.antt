-- The names of files as the code keeps them.
use Rattle.og_cli.specs.declared.report.Names.{Names}
use Rattle.og_cli.specs.Exit.{FileNames}

abbrev pub names_seen : Names → FileNames
names_seen names = record { first = names.first.now; choices = names.choices.now }
