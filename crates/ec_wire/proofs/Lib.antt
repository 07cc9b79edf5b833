pub mod MessagesLemmas
